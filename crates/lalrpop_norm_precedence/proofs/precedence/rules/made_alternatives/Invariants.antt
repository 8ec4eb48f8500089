use Rattle.std.proofs.Common.{◌≡◌, ◌++◌, map}
use Rattle.std.specs.Prelude.{option_map, unwrap_or}
use Rattle.lalrpop_norm_tree.specs.Symbols.{nonterminal, kind_view}
use Rattle.lalrpop_norm_tree.specs.Items.{alternative_view, rule_view}
use Rattle.lalrpop_norm_precedence.specs.Grouped.{marked_view}
use Rattle.lalrpop_norm_precedence.specs.Made.{made_alternative}
use Rattle.lalrpop_norm_precedence.proofs.precedence.rules.made_alternatives.Given as goal

abbrev pub invariant-loop-alternative : goal.invariant-loop-alternative
invariant-loop-alternative l = record {
  current : kind_view l.current ≡ nonterminal l.fn.own.0;
  lower : kind_view l.lower ≡ nonterminal (unwrap_or (option_map (λ n. n.now.0) l.fn.below) l.fn.own.0);
  value : map alternative_view l.alternatives.items
      ++ map (made_alternative (rule_view l.fn.head) l.fn.own.0 (option_map (λ n. n.now.0) l.fn.below)) (map marked_view l.alternative-iterator.rest.items)
      ≡ map (made_alternative (rule_view l.fn.head) l.fn.own.0 (option_map (λ n. n.now.0) l.fn.below)) (map marked_view l.fn.marked.items);
}
