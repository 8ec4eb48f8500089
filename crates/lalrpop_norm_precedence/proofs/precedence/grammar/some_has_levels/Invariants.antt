use Rattle.std.proofs.Common.{◌≡◌, map, drop}
use Rattle.std.specs.List.{list_any}
use Rattle.lalrpop_norm_tree.specs.Items.{item_view}
use Rattle.lalrpop_norm_precedence.specs.LeveledItems.{item_has_levels}
use Rattle.lalrpop_norm_precedence.proofs.precedence.grammar.some_has_levels.Given as goal

abbrev pub invariant-loop-item : goal.invariant-loop-item
invariant-loop-item l = list_any item_has_levels (map item_view (drop l.item-index l.items)) ≡ list_any item_has_levels (map item_view l.items)
