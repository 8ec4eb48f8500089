use Rattle.std.proofs.Common.{◌≡◌, drop, map}
use Rattle.std.specs.List.{list_all}
use Rattle.lalrpop_norm_tree.specs.Items.{item_view}
use Rattle.lalrpop_norm_is_expanded.specs.Types.{item_lacks_symbol}
use Rattle.lalrpop_norm_is_expanded.proofs.types.items_lack_symbol.Given as goal

abbrev pub invariant-loop-item : goal.invariant-loop-item
invariant-loop-item l = list_all item_lacks_symbol (map item_view (drop l.item-index l.items)) ≡ list_all item_lacks_symbol (map item_view l.items)
