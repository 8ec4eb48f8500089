use Rattle.std.proofs.Common.{sym}
use Rattle.lalrpop_norm_tree.specs.Accessors.{enum_token_of}
use Rattle.lalrpop_norm_tree.specs.Items.{enum_token_view, item_view}
use Rattle.lalrpop_norm_tree.proofs.FirstLemmas.{first_found, first_missing}
use Rattle.lalrpop_norm_tree.proofs.items.accessors.first_enum.Goals as goal

pub returns-in-Some : goal.returns-in-Some
returns-in-Some c =
    sym (first_found (λ i. enum_token_of (item_view i)) c.args.items.now c.loop-item.item-index c.item-item.result (enum_token_view c.in-Some.found.now) c.loop-item-test.true c.loop-item.invariant (rw (← c.item-item.is) (sym c.in-Some.ensures)))

pub loop-item-preserved : goal.loop-item-preserved
loop-item-preserved c =
    first_missing (λ i. enum_token_of (item_view i)) c.args.items.now c.loop-item.item-index c.item-item.result c.loop-item-test.true c.loop-item.invariant (rw (← c.item-item.is) (sym c.in_default.ensures))
