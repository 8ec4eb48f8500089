use Rattle.std.proofs.Common.{◌≡◌, map, drop}
use Rattle.lalrpop_norm_tree.specs.Items.{item_view}
use Rattle.lalrpop_norm_prevalidate.specs.GrammarFaults.{items_faults}
use Rattle.lalrpop_norm_prevalidate.specs.Walks.{items_along}
use Rattle.lalrpop_norm_prevalidate.proofs.prevalidate.validate_items.Given as goal

abbrev pub invariant-loop-item : goal.invariant-loop-item
invariant-loop-item l = items_along l.around l.blocks l.span l.seen_match l.seen_extern (map item_view (drop l.item-index l.items)) ≡ items_faults l.around l.blocks l.span (map item_view l.items)
