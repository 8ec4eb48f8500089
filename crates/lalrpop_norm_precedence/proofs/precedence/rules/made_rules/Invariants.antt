use Rattle.std.proofs.Common.{◌≡◌, ◌++◌, None, map}
use Rattle.std.specs.Prelude.{option_map}
use Rattle.lalrpop_norm_tree.specs.Items.{rule_view}
use Rattle.lalrpop_norm_precedence.specs.Grouped.{group_view}
use Rattle.lalrpop_norm_precedence.specs.Made.{made_level_rules}
use Rattle.lalrpop_norm_precedence.proofs.precedence.rules.made_rules.Given as goal

abbrev pub invariant-loop-group : goal.invariant-loop-group
invariant-loop-group l =
    map rule_view l.rules.items ++ made_level_rules (rule_view l.fn.head) l.highest (option_map (λ n. n.0) l.below) (map group_view l.group-iterator.rest.items)
    ≡ made_level_rules (rule_view l.fn.head) l.highest None (map group_view l.fn.groups.items)
