use Rattle.std.proofs.Common.{◌≡◌, map, drop}
use Rattle.std.specs.List.{flat_map}
use Rattle.lalrpop_norm_tree.specs.Items.{item_view}
use Rattle.lalrpop_norm_precedence.specs.MacroLevels.{macro_item_faults}
use Rattle.lalrpop_norm_precedence.proofs.precedence.expand.check_macros.Given as goal

abbrev pub invariant-loop-item : goal.invariant-loop-item
invariant-loop-item l = flat_map macro_item_faults (map item_view (drop l.item-index l.items)) ≡ flat_map macro_item_faults (map item_view l.items)
