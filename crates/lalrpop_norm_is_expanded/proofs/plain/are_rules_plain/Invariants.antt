use Rattle.std.proofs.Common.{◌≡◌, drop, map}
use Rattle.std.specs.List.{list_all}
use Rattle.lalrpop_norm_tree.specs.Items.{item_view}
use Rattle.lalrpop_norm_is_expanded.specs.Plain.{is_usable_item}
use Rattle.lalrpop_norm_is_expanded.proofs.plain.are_rules_plain.Given as goal

abbrev pub invariant-loop-item : goal.invariant-loop-item
invariant-loop-item l = list_all (is_usable_item (map item_view l.items)) (map item_view (drop l.item-index l.items)) ≡ list_all (is_usable_item (map item_view l.items)) (map item_view l.items)
