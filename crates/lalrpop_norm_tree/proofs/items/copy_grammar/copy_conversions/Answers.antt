use Rattle.std.proofs.Common.{map, refl, ap, ◌∙◌}
use Rattle.std.proofs.lemmas.List.{take_all}
use Rattle.std.proofs.lemmas.Result.{IfOk-from_err}
use borrow.Author.Count.{falls}
use Rattle.lalrpop_norm_tree_parts.proofs.WalkLemmas.{shape_more}
use Rattle.lalrpop_norm_tree.specs.Items.{conversion_view}
use Rattle.lalrpop_norm_tree.proofs.items.copy_grammar.copy_conversions.Goals as goal

pub loop-conversion-init : goal.loop-conversion-init
loop-conversion-init c = rw (c.new-copies.ensures.items) refl

pub loop-conversion-preserved : goal.loop-conversion-preserved
loop-conversion-preserved c =
    rw (c.in_ok-push.ensures.items)
    (shape_more conversion_view conversion_view c.args.conversions.now c.loop-conversion.copies.items c.loop-conversion.conversion-index c.conversion-item.result c.in_ok-clone.field-0 c.loop-conversion-test.true c.loop-conversion.invariant (rw (← c.conversion-item.is) c.in_ok-clone.ensures))

pub loop-conversion-smaller : goal.loop-conversion-smaller
loop-conversion-smaller c = falls _ _ c.loop-conversion-test.true

pub returns : goal.returns
returns c = c.loop-conversion.invariant ∙ ap (map conversion_view) (take_all c.loop-conversion.conversion-index c.args.conversions.now c.loop-conversion-test.false)

pub returns-in_err-clone : goal.returns-in_err-clone
returns-in_err-clone c = IfOk-from_err _ _ c.from_residual.ensures.0

pub returns-in_err-push : goal.returns-in_err-push
returns-in_err-push c = IfOk-from_err _ _ c.from_residual-in_err-push.ensures.0
