use Rattle.std.proofs.Common.{◌≡◌, ◌++◌, drop, map}
use Rattle.std.specs.List.{flat_map}
use Rattle.lalrpop_norm_tree.specs.Items.{item_view}
use Rattle.lalrpop_norm_common.specs.Uses.{places_in_item}
use Rattle.lalrpop_norm_common.proofs.uses.uses_of.Given as goal

abbrev pub invariant-loop-item : goal.invariant-loop-item
invariant-loop-item l = l.uses.items ++ flat_map places_in_item (map item_view (drop l.item-index l.items)) ≡ flat_map places_in_item (map item_view l.items)
