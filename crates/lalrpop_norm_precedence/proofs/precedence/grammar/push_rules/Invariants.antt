use Rattle.std.proofs.Common.{◌≡◌, ◌++◌, map}
use Rattle.lalrpop_norm_tree.specs.Items.{rule_item, rule_view, item_view}
use Rattle.lalrpop_norm_precedence.proofs.precedence.grammar.push_rules.Given as goal

abbrev pub invariant-loop-rule : goal.invariant-loop-rule
invariant-loop-rule l =
    map item_view l.made.items ++ map rule_item (map rule_view l.rule-iterator.rest.items)
    ≡ map item_view l.initial.made.items ++ map rule_item (map rule_view l.fn.rules.items)
