use Rattle.std.proofs.Common.{◌≡◌, ◌++◌, map, drop}
use Rattle.std.specs.List.{flat_map}
use Rattle.lalrpop_norm_tree.specs.Items.{item_view}
use Rattle.lalrpop_norm_prevalidate.specs.MalformedCfgs.{malformed_in_item}
use Rattle.lalrpop_norm_prevalidate.proofs.prevalidate.malformed.add_items.Given as goal

abbrev pub invariant-loop-item : goal.invariant-loop-item
invariant-loop-item l =
    l.spans.items ++ flat_map malformed_in_item (map item_view (drop l.item-index l.items)) ≡ l.initial.spans.items ++ flat_map malformed_in_item (map item_view l.items)
