use Rattle.std.proofs.Common.{map, refl, ap, ◌∙◌}
use Rattle.std.proofs.lemmas.List.{take_all}
use Rattle.std.proofs.lemmas.Result.{IfOk-from_err}
use borrow.Author.Count.{falls}
use Rattle.lalrpop_norm_tree_parts.proofs.WalkLemmas.{shape_more}
use Rattle.lalrpop_norm_tree.specs.Items.{item_view}
use Rattle.lalrpop_norm_tree.proofs.items.copy_grammar.copy_items.Goals as goal

pub loop-item-init : goal.loop-item-init
loop-item-init c = rw (c.new-copies.ensures.items) refl

pub loop-item-preserved : goal.loop-item-preserved
loop-item-preserved c =
    rw (c.in_ok-push.ensures.items)
    (shape_more item_view item_view c.args.items.now c.loop-item.copies.items c.loop-item.item-index c.item-item.result c.in_ok-clone.field-0 c.loop-item-test.true c.loop-item.invariant (rw (← c.item-item.is) c.in_ok-clone.ensures))

pub loop-item-smaller : goal.loop-item-smaller
loop-item-smaller c = falls _ _ c.loop-item-test.true

pub returns : goal.returns
returns c = c.loop-item.invariant ∙ ap (map item_view) (take_all c.loop-item.item-index c.args.items.now c.loop-item-test.false)

pub returns-in_err-clone : goal.returns-in_err-clone
returns-in_err-clone c = IfOk-from_err _ _ c.from_residual.ensures.0

pub returns-in_err-push : goal.returns-in_err-push
returns-in_err-push c = IfOk-from_err _ _ c.from_residual-in_err-push.ensures.0
