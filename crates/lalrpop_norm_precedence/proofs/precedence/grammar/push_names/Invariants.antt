use Rattle.std.proofs.Common.{◌≡◌, ◌++◌, map, drop}
use Rattle.lalrpop_norm_tree.specs.Items.{rule_view}
use Rattle.lalrpop_norm_precedence.specs.MadeNames.{rule_name}
use Rattle.lalrpop_norm_precedence.proofs.precedence.grammar.push_names.Given as goal

abbrev pub invariant-loop-rule : goal.invariant-loop-rule
invariant-loop-rule l =
    l.names.items ++ map rule_name (map rule_view (drop l.rule-index l.rules))
    ≡ l.initial.names.items ++ map rule_name (map rule_view l.rules)
