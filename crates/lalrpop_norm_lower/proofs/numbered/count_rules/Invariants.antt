use Rattle.std.proofs.Common.{◌≡◌, ◌+◌, ◌≤◌, drop, length, map}
use Rattle.lalrpop_norm_tree.specs.Items.{item_view}
use Rattle.lalrpop_norm_lower.specs.Lowering.{rules_among}
use Rattle.lalrpop_norm_lower.proofs.numbered.count_rules.Given as goal

abbrev pub invariant-loop-item : goal.invariant-loop-item
invariant-loop-item l =
    record { within : l.count ≤ l.item-index; counted : l.count + length (rules_among (map item_view (drop l.item-index l.items))) ≡ length (rules_among (map item_view l.items)) }
