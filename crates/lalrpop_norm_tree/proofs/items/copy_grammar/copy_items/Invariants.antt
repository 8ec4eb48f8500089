use Rattle.std.proofs.Common.{◌≡◌, map, take}
use Rattle.lalrpop_norm_tree.specs.Items.{item_view}
use Rattle.lalrpop_norm_tree.proofs.items.copy_grammar.copy_items.Given as goal

abbrev pub invariant-loop-item : goal.invariant-loop-item
invariant-loop-item l = map item_view l.copies.items ≡ map item_view (take l.item-index l.items)
