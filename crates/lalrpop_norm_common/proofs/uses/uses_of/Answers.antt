use Rattle.std.proofs.Common.{List, map, refl, arith}
use Rattle.std.specs.List.{flat_map}
use Rattle.lalrpop_norm_tree.specs.declared.items.GrammarItem.{GrammarItem}
use Rattle.lalrpop_norm_tree.specs.Items.{item_view}
use Rattle.lalrpop_norm_common.specs.Uses.{places_in_item}
use Rattle.lalrpop_norm_common.proofs.ListLemmas.{next_collected}
use Rattle.lalrpop_norm_common.proofs.uses.uses_of.Goals as goal

pub loop-item-preserved : goal.loop-item-preserved
loop-item-preserved c =
    next_collected (λ (xs : List GrammarItem). flat_map places_in_item (map item_view xs)) (λ (x : GrammarItem). places_in_item (item_view x)) (λ x xs. refl)
    c.args.items.now c.loop-item.item-index c.item-item.result c.loop-item.uses.items c.add_item.new.uses.items _
    (omega arith) c.item-item.is c.in_ok-add_item.ensures c.loop-item.invariant
