use Rattle.std.proofs.Common.{map, refl, ap, ap₂, ◌∙◌}
use Rattle.std.proofs.lemmas.List.{take_all}
use Rattle.std.proofs.lemmas.Result.{IfOk-from_err}
use borrow.Author.Count.{falls}
use Rattle.lalrpop_norm_tree.specs.LoweredTypes.{repr_of}
use Rattle.lalrpop_norm_tree.specs.Types.{type_view}
use Rattle.lalrpop_norm_tree_parts.specs.Reprs.{repr_view, reprs_of, returns}
use Rattle.lalrpop_norm_tree_parts.proofs.ReprSeen.{applied_is}
use Rattle.lalrpop_norm_tree_parts.proofs.WalkLemmas.{shape_more}
use Rattle.lalrpop_norm_tree.proofs.LoweredKinds.{tuple_lowered, slice_lowered, nominal_lowered, reference_lowered, object_lowered, lifetime_lowered, id_lowered, symbol_lowered, function_lowered}
use Rattle.lalrpop_norm_tree.proofs.TypeLemmas.{lowered_one_by_one}
use Rattle.lalrpop_norm_tree.proofs.TypeSizes.{lowers_tuple, lowers_slice, lowers_nominal, lowers_referent, lowers_object, lowers_parameters, lowers_one, lowers_arguments}
use Rattle.lalrpop_norm_tree.proofs.types.repr.+lower.Goals as goal

pub lower-returns-in_ok-lower_all-in-Tuple : goal.lower-returns-in_ok-lower_all-in-Tuple
lower-returns-in_ok-lower_all-in-Tuple t c =
    tuple_lowered c.args.written.now c.in-Tuple.types c.in_ok-lower_all-in-Tuple.field-0 c.in-Tuple.is (rw (← c.deref.ensures.value) c.in_ok-lower_all-in-Tuple.ensures)

pub lower-returns-in_ok-new-in-Slice : goal.lower-returns-in_ok-new-in-Slice
lower-returns-in_ok-new-in-Slice t c =
    slice_lowered c.args.written.now c.in-Slice.inner c.in_ok-new-in-Slice.field-0 c.in-Slice.is
    (ap repr_view c.in_ok-new-in-Slice.ensures.ok ∙ c.in_ok-lower-in-Slice.ensures ∙ ap (λ u. repr_of (type_view u)) c.deref-in-Slice.ensures)

pub lower-returns-in_ok-lower_applied-in-Nominal : goal.lower-returns-in_ok-lower_applied-in-Nominal
lower-returns-in_ok-lower_applied-in-Nominal t c =
    nominal_lowered c.args.written.now c.in-Nominal.path c.in-Nominal.types c.in_ok-lower_applied-in-Nominal.field-0 c.in-Nominal.is (rw (← c.deref-in-Nominal.ensures.value) c.in_ok-lower_applied-in-Nominal.ensures)

pub lower-returns-in_ok-new-in-Ref : goal.lower-returns-in_ok-new-in-Ref
lower-returns-in_ok-new-in-Ref t c =
    reference_lowered c.args.written.now c.in-Ref.lifetime c.in_ok-clone-in-Ref.field-0 c.in-Ref.mutable c.in-Ref.referent c.in_ok-new-in-Ref.field-0 c.in-Ref.is c.in_ok-clone-in-Ref.ensures.cases
    (ap repr_view c.in_ok-new-in-Ref.ensures.ok ∙ c.in_ok-lower-in-Ref.ensures ∙ ap (λ u. repr_of (type_view u)) c.deref-in-Ref.ensures)

pub lower-returns-in_ok-lower_applied-in-TraitObject : goal.lower-returns-in_ok-lower_applied-in-TraitObject
lower-returns-in_ok-lower_applied-in-TraitObject t c =
    object_lowered c.args.written.now c.in-TraitObject.path c.in-TraitObject.types c.in_ok-lower_applied-in-TraitObject.field-0 c.in-TraitObject.is (rw (← c.deref-in-TraitObject.ensures.value) c.in_ok-lower_applied-in-TraitObject.ensures)

pub lower-returns-in_ok-clone-in-Lifetime : goal.lower-returns-in_ok-clone-in-Lifetime
lower-returns-in_ok-clone-in-Lifetime t c = lifetime_lowered c.args.written.now c.in-Lifetime.lifetime c.in_ok-clone-in-Lifetime.field-0 c.in-Lifetime.is c.in_ok-clone-in-Lifetime.ensures.cases

pub lower-returns-in_ok-lower_name-in-Id : goal.lower-returns-in_ok-lower_name-in-Id
lower-returns-in_ok-lower_name-in-Id t c = id_lowered c.args.written.now c.in-Id.id c.in_ok-lower_name-in-Id.field-0 c.in-Id.is c.in_ok-lower_name-in-Id.ensures

pub lower-returns-in-OfSymbol : goal.lower-returns-in-OfSymbol
lower-returns-in-OfSymbol t c = symbol_lowered c.args.written.now _ c.new-in-OfSymbol.result c.in-OfSymbol.is (ap (λ rs. reprs_of (map repr_view rs)) c.new-in-OfSymbol.ensures.items)

pub lower-returns-in_ok-lower_result-in-Fn : goal.lower-returns-in_ok-lower_result-in-Fn
lower-returns-in_ok-lower_result-in-Fn t c =
    function_lowered c.args.written.now c.in-Fn.forall c.in_ok-copy_type_parameters-in-Fn.field-0 c.in-Fn.path c.in_ok-clone-in-Fn.field-0 c.in-Fn.parameters c.in_ok-lower_all-in-Fn.field-0 c.in-Fn.ret c.in_ok-lower_result-in-Fn.field-0 c.in-Fn.is
    c.in_ok-copy_type_parameters-in-Fn.ensures c.in_ok-clone-in-Fn.ensures.cases (rw (← c.deref-in-Fn.ensures.value) c.in_ok-lower_all-in-Fn.ensures) c.in_ok-lower_result-in-Fn.ensures

pub lower_applied-returns : goal.lower_applied-returns
lower_applied-returns t c = applied_is _ ∙ ap₂ (λ x y. (x, y)) c.in_ok-path.ensures.cases c.in_ok-types.ensures

pub lower_result-returns-in-None : goal.lower_result-returns-in-None
lower_result-returns-in-None t c = rw (c.in-None.is) refl

pub lower_result-returns-in_ok-new-in-Some : goal.lower_result-returns-in_ok-new-in-Some
lower_result-returns-in_ok-new-in-Some t c =
    rw (c.in-Some.is) (ap returns (ap repr_view c.in_ok-new-in-Some.ensures.ok ∙ c.in_ok-lower-in-Some.ensures ∙ ap (λ u. repr_of (type_view u)) c.deref.ensures))

pub lower_all-loop-inner-init : goal.lower_all-loop-inner-init
lower_all-loop-inner-init t c = rw (c.in_ok-lowered.ensures.items) refl

pub lower_all-loop-inner-preserved : goal.lower_all-loop-inner-preserved
lower_all-loop-inner-preserved t c =
    rw (c.in_ok-push.ensures.items)
    (shape_more (λ u. repr_of (type_view u)) repr_view c.args.types.now c.loop-inner.lowered.items c.loop-inner.inner-index c.inner-item.result c.in_ok-lower.field-0 c.loop-inner-test.true c.loop-inner.invariant (rw (← c.inner-item.is) c.in_ok-lower.ensures))

pub lower_all-loop-inner-smaller : goal.lower_all-loop-inner-smaller
lower_all-loop-inner-smaller t c = falls _ _ c.loop-inner-test.true

pub lower_all-returns : goal.lower_all-returns
lower_all-returns t c =
    let all = take_all c.loop-inner.inner-index c.args.types.now c.loop-inner-test.false in
    ap reprs_of (rw all at c.loop-inner.invariant) ∙ lowered_one_by_one c.args.types.now

pub lower-lower_all-requires : goal.lower-lower_all-requires
lower-lower_all-requires t c = (lowers_tuple t c.args.written.now c.in-Tuple.types c.deref.result.now c.in-Tuple.is c.deref.ensures.value c.decreases, tt)

pub lower-lower-requires : goal.lower-lower-requires
lower-lower-requires t c = (lowers_slice t c.args.written.now c.in-Slice.inner c.deref-in-Slice.result.now c.in-Slice.is c.deref-in-Slice.ensures c.decreases, tt)

pub lower-lower_applied-requires : goal.lower-lower_applied-requires
lower-lower_applied-requires t c = (lowers_nominal t c.args.written.now c.in-Nominal.path c.in-Nominal.types c.deref-in-Nominal.result.now c.in-Nominal.is c.deref-in-Nominal.ensures.value c.decreases, tt)

pub lower-lower-requires-in-Ref : goal.lower-lower-requires-in-Ref
lower-lower-requires-in-Ref t c = (lowers_referent t c.args.written.now c.in-Ref.lifetime c.in-Ref.mutable c.in-Ref.referent c.deref-in-Ref.result.now c.in-Ref.is c.deref-in-Ref.ensures c.decreases, tt)

pub lower-lower_applied-requires-in-TraitObject : goal.lower-lower_applied-requires-in-TraitObject
lower-lower_applied-requires-in-TraitObject t c = (lowers_object t c.args.written.now c.in-TraitObject.path c.in-TraitObject.types c.deref-in-TraitObject.result.now c.in-TraitObject.is c.deref-in-TraitObject.ensures.value c.decreases, tt)

pub lower-lower_all-requires-in-Fn : goal.lower-lower_all-requires-in-Fn
lower-lower_all-requires-in-Fn t c = (lowers_parameters t c.args.written.now c.in-Fn.forall c.in-Fn.path c.in-Fn.parameters c.in-Fn.ret c.deref-in-Fn.result.now c.in-Fn.is c.deref-in-Fn.ensures.value c.decreases, tt)

pub lower_applied-lower_all-requires : goal.lower_applied-lower_all-requires
lower_applied-lower_all-requires t c = (lowers_arguments t c.args.types.now c.decreases, tt)

pub lower_all-lower-requires : goal.lower_all-lower-requires
lower_all-lower-requires t c = (lowers_one t c.args.types.now c.loop-inner.inner-index c.inner-item.result c.loop-inner-test.true c.inner-item.is c.decreases, tt)

pub lower-returns-in_err-clone-in-Fn : goal.lower-returns-in_err-clone-in-Fn
lower-returns-in_err-clone-in-Fn t c = IfOk-from_err _ _ c.from_residual-in_err-clone-in-Fn.ensures.0

pub lower-returns-in_err-clone-in-Lifetime : goal.lower-returns-in_err-clone-in-Lifetime
lower-returns-in_err-clone-in-Lifetime t c = IfOk-from_err _ _ c.from_residual-in_err-clone-in-Lifetime.ensures.0

pub lower-returns-in_err-clone-in-Ref : goal.lower-returns-in_err-clone-in-Ref
lower-returns-in_err-clone-in-Ref t c = IfOk-from_err _ _ c.from_residual-in_err-clone-in-Ref.ensures.0

pub lower-returns-in_err-copy_type_parameters-in-Fn : goal.lower-returns-in_err-copy_type_parameters-in-Fn
lower-returns-in_err-copy_type_parameters-in-Fn t c = IfOk-from_err _ _ c.from_residual-in_err-copy_type_parameters-in-Fn.ensures.0

pub lower-returns-in_err-lower-in-Ref : goal.lower-returns-in_err-lower-in-Ref
lower-returns-in_err-lower-in-Ref t c = IfOk-from_err _ _ c.from_residual-in_err-lower-in-Ref.ensures.0

pub lower-returns-in_err-lower-in-Slice : goal.lower-returns-in_err-lower-in-Slice
lower-returns-in_err-lower-in-Slice t c = IfOk-from_err _ _ c.from_residual-in_err-lower-in-Slice.ensures.0

pub lower-returns-in_err-lower_all-in-Fn : goal.lower-returns-in_err-lower_all-in-Fn
lower-returns-in_err-lower_all-in-Fn t c = IfOk-from_err _ _ c.from_residual-in_err-lower_all-in-Fn.ensures.0

pub lower-returns-in_err-lower_all-in-Tuple : goal.lower-returns-in_err-lower_all-in-Tuple
lower-returns-in_err-lower_all-in-Tuple t c = IfOk-from_err _ _ c.from_residual.ensures.0

pub lower-returns-in_err-lower_applied-in-Nominal : goal.lower-returns-in_err-lower_applied-in-Nominal
lower-returns-in_err-lower_applied-in-Nominal t c = IfOk-from_err _ _ c.from_residual-in_err-lower_applied-in-Nominal.ensures.0

pub lower-returns-in_err-lower_applied-in-TraitObject : goal.lower-returns-in_err-lower_applied-in-TraitObject
lower-returns-in_err-lower_applied-in-TraitObject t c = IfOk-from_err _ _ c.from_residual-in_err-lower_applied-in-TraitObject.ensures.0

pub lower-returns-in_err-lower_name-in-Id : goal.lower-returns-in_err-lower_name-in-Id
lower-returns-in_err-lower_name-in-Id t c = IfOk-from_err _ _ c.from_residual-in_err-lower_name-in-Id.ensures.0

pub lower-returns-in_err-lower_result-in-Fn : goal.lower-returns-in_err-lower_result-in-Fn
lower-returns-in_err-lower_result-in-Fn t c = IfOk-from_err _ _ c.from_residual-in_err-lower_result-in-Fn.ensures.0

pub lower-returns-in_err-new-in-Ref : goal.lower-returns-in_err-new-in-Ref
lower-returns-in_err-new-in-Ref t c = IfOk-from_err _ _ c.from_residual-in_err-new-in-Ref.ensures.0

pub lower-returns-in_err-new-in-Slice : goal.lower-returns-in_err-new-in-Slice
lower-returns-in_err-new-in-Slice t c = IfOk-from_err _ _ c.from_residual-in_err-new-in-Slice.ensures.0

pub lower_all-returns-in_err-lower : goal.lower_all-returns-in_err-lower
lower_all-returns-in_err-lower t c = IfOk-from_err _ _ c.from_residual-in_err-lower.ensures.0

pub lower_all-returns-in_err-lowered : goal.lower_all-returns-in_err-lowered
lower_all-returns-in_err-lowered t c = IfOk-from_err _ _ c.from_residual.ensures.0

pub lower_all-returns-in_err-push : goal.lower_all-returns-in_err-push
lower_all-returns-in_err-push t c = IfOk-from_err _ _ c.from_residual-in_err-push.ensures.0

pub lower_applied-returns-in_err-path : goal.lower_applied-returns-in_err-path
lower_applied-returns-in_err-path t c = IfOk-from_err _ _ c.from_residual.ensures.0

pub lower_applied-returns-in_err-types : goal.lower_applied-returns-in_err-types
lower_applied-returns-in_err-types t c = IfOk-from_err _ _ c.from_residual-in_err-types.ensures.0

pub lower_result-returns-in_err-lower-in-Some : goal.lower_result-returns-in_err-lower-in-Some
lower_result-returns-in_err-lower-in-Some t c = IfOk-from_err _ _ c.from_residual.ensures.0

pub lower_result-returns-in_err-new-in-Some : goal.lower_result-returns-in_err-new-in-Some
lower_result-returns-in_err-new-in-Some t c = IfOk-from_err _ _ c.from_residual-in_err-new-in-Some.ensures.0
