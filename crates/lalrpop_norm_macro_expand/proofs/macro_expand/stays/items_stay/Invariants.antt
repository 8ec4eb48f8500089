use Rattle.std.proofs.Common.{◌≡◌, drop, map}
use Rattle.std.specs.List.{list_all}
use Rattle.lalrpop_norm_tree.specs.Items.{item_view}
use Rattle.lalrpop_norm_macro_expand.specs.Stays.{item_stays}
use Rattle.lalrpop_norm_macro_expand.proofs.macro_expand.stays.items_stay.Given as goal

abbrev pub invariant-loop-item : goal.invariant-loop-item
invariant-loop-item l = list_all item_stays (map item_view (drop l.item-index l.items)) ≡ list_all item_stays (map item_view l.items)
