use Rattle.std.proofs.Common.{◌∙◌, map, refl, ap, arith}
use Rattle.std.specs.List.{flat_map}
use Rattle.lalrpop_norm_names.specs.Seeds.{seeded_after}
use Rattle.lalrpop_norm_tree.specs.declared.items.GrammarItem.{GrammarItem}
use Rattle.lalrpop_norm_tree.specs.Items.{item_view}
use Rattle.lalrpop_norm_nodes.specs.Digests.{item_writes}
use Rattle.lalrpop_norm_nodes.proofs.DigestLemmas.{one_read, all_read}
use Rattle.lalrpop_norm_nodes.proofs.digest.seeded_by.Goals as goal

pub loop-item-preserved : goal.loop-item-preserved
loop-item-preserved c =
    one_read (λ xs. flat_map item_writes (map item_view xs)) (λ (i : GrammarItem). item_writes (item_view i)) (λ x xs. refl)
    c.args.items.now c.loop-item.item-index c.item-item.result c.loop-item.reader c.read_item.new.reader
    (omega arith) c.item-item.is c.read_item.ensures
    ∙ c.loop-item.invariant

pub returns : goal.returns
returns c =
    c.after.ensures
    ∙ ap seeded_after
    (all_read (λ xs. flat_map item_writes (map item_view xs))
    c.args.items.now c.loop-item.item-index c.loop-item.reader (omega arith)
    ∙ c.loop-item.invariant)
