use Rattle.std.proofs.Common.{Bor, map, ap, ◌∙◌}
use Rattle.std.proofs.lemmas.List.{take_all}
use Rattle.std.proofs.lemmas.Result.{IfOk-from_err}
use borrow.Author.Count.{falls}
use Rattle.lalrpop_norm_tree.specs.declared.types.TypeRef.{TypeRef}
use Rattle.lalrpop_norm_tree.specs.LoweredTypes.{repr_of}
use Rattle.lalrpop_norm_tree.specs.Types.{type_view}
use Rattle.lalrpop_norm_tree_parts.specs.Reprs.{repr_view}
use Rattle.lalrpop_norm_tyinfer.proofs.Loops.{next_mapped}
use Rattle.lalrpop_norm_tyinfer.proofs.tyinfer.tokens.lowered_types.Goals as goal

pub loop-ty-init : goal.loop-ty-init
loop-ty-init c = ap (map repr_view) c.in_ok-types.ensures.items

pub loop-ty-preserved : goal.loop-ty-preserved
loop-ty-preserved c =
    ap (map repr_view) c.in_ok-push.ensures.items
    ∙ next_mapped repr_view (λ (t : Bor TypeRef). repr_of (type_view t.now)) c.args.written.now c.loop-ty.ty-index c.ty-item.result c.loop-ty.types.items c.in_ok-lowered.field-0 c.loop-ty-test.true c.ty-item.is
    c.in_ok-lowered.ensures c.loop-ty.invariant

pub loop-ty-smaller : goal.loop-ty-smaller
loop-ty-smaller c = falls _ _ c.loop-ty-test.true

pub returns : goal.returns
returns c =
    c.loop-ty.invariant ∙ ap (map (λ (t : Bor TypeRef). repr_of (type_view t.now))) (take_all c.loop-ty.ty-index c.args.written.now c.loop-ty-test.false)

pub returns-in_err-types : goal.returns-in_err-types
returns-in_err-types c = IfOk-from_err _ _ c.from_residual.ensures.0

pub returns-in_err-lowered : goal.returns-in_err-lowered
returns-in_err-lowered c = IfOk-from_err _ _ c.from_residual-in_err-lowered.ensures.0

pub returns-in_err-push : goal.returns-in_err-push
returns-in_err-push c = IfOk-from_err _ _ c.from_residual-in_err-push.ensures.0
