use Rattle.std.proofs.Common.{Some, map, refl, ap, ◌∙◌}
use Rattle.std.proofs.lemmas.List.{take_all}
use Rattle.std.proofs.lemmas.Result.{IfOk-from_err}
use borrow.Author.Count.{falls}
use Rattle.lalrpop_norm_tree_parts.specs.Reprs.{repr_view, reprs_of}
use Rattle.lalrpop_norm_tree_parts.proofs.ReprCopies.{tuple_copied, slice_copied, nominal_copied, associated_copied, lifetime_copied, reference_copied, object_copied, function_copied, applied_copied}
use Rattle.lalrpop_norm_tree_parts.proofs.ReprSizes.{to_tuple, to_slice, to_nominal, to_referent, to_object, to_arguments, to_value, to_one}
use Rattle.lalrpop_norm_tree_parts.proofs.WalkLemmas.{shape_more}
use Rattle.lalrpop_norm_tree_parts.proofs.lowered.copy.+copy.Goals as goal

pub copy_repr-returns-in_ok-copy_reprs-in-Tuple : goal.copy_repr-returns-in_ok-copy_reprs-in-Tuple
copy_repr-returns-in_ok-copy_reprs-in-Tuple t c = tuple_copied c.args.ty.now c.in-Tuple.types c.in_ok-copy_reprs-in-Tuple.field-0 c.in-Tuple.is c.in_ok-copy_reprs-in-Tuple.ensures

pub copy_repr-returns-in_ok-copy_boxed-in-Slice : goal.copy_repr-returns-in_ok-copy_boxed-in-Slice
copy_repr-returns-in_ok-copy_boxed-in-Slice t c = slice_copied c.args.ty.now c.in-Slice.inner c.in_ok-copy_boxed-in-Slice.field-0 c.in-Slice.is c.in_ok-copy_boxed-in-Slice.ensures

pub copy_repr-returns-in_ok-copy_nominal-in-Nominal : goal.copy_repr-returns-in_ok-copy_nominal-in-Nominal
copy_repr-returns-in_ok-copy_nominal-in-Nominal t c = nominal_copied c.args.ty.now c.in-Nominal.nominal c.in_ok-copy_nominal-in-Nominal.field-0 c.in-Nominal.is c.in_ok-copy_nominal-in-Nominal.ensures

pub copy_repr-returns-in_ok-clone-in-Associated-2 : goal.copy_repr-returns-in_ok-clone-in-Associated-2
copy_repr-returns-in_ok-clone-in-Associated-2 t c = associated_copied c.args.ty.now c.in-Associated.type_parameter c.in-Associated.id c.in_ok-clone-in-Associated.field-0 c.in_ok-clone-in-Associated-2.field-0 c.in-Associated.is c.in_ok-clone-in-Associated.ensures.cases c.in_ok-clone-in-Associated-2.ensures.cases

pub copy_repr-returns-in_ok-clone-in-Lifetime : goal.copy_repr-returns-in_ok-clone-in-Lifetime
copy_repr-returns-in_ok-clone-in-Lifetime t c = lifetime_copied c.args.ty.now c.in-Lifetime.lifetime c.in_ok-clone-in-Lifetime.field-0 c.in-Lifetime.is c.in_ok-clone-in-Lifetime.ensures.cases

pub copy_repr-returns-in_ok-copy_boxed-in-Ref : goal.copy_repr-returns-in_ok-copy_boxed-in-Ref
copy_repr-returns-in_ok-copy_boxed-in-Ref t c = reference_copied c.args.ty.now c.in-Ref.lifetime c.in_ok-clone-in-Ref.field-0 c.in-Ref.mutable c.in-Ref.referent c.in_ok-copy_boxed-in-Ref.field-0 c.in-Ref.is c.in_ok-clone-in-Ref.ensures.cases c.in_ok-copy_boxed-in-Ref.ensures

pub copy_repr-returns-in_ok-copy_nominal-in-TraitObject : goal.copy_repr-returns-in_ok-copy_nominal-in-TraitObject
copy_repr-returns-in_ok-copy_nominal-in-TraitObject t c = object_copied c.args.ty.now c.in-TraitObject.nominal c.in_ok-copy_nominal-in-TraitObject.field-0 c.in-TraitObject.is c.in_ok-copy_nominal-in-TraitObject.ensures

pub copy_repr-returns-in_ok-copy_return-in-Fn : goal.copy_repr-returns-in_ok-copy_return-in-Fn
copy_repr-returns-in_ok-copy_return-in-Fn t c =
    function_copied c.args.ty.now c.in-Fn.forall c.in_ok-copy_type_parameters-in-Fn.field-0 c.in-Fn.path c.in_ok-clone-in-Fn.field-0 c.in-Fn.parameters c.in_ok-copy_reprs-in-Fn.field-0 c.in-Fn.ret c.in_ok-copy_return-in-Fn.field-0 c.in-Fn.is
    c.in_ok-copy_type_parameters-in-Fn.ensures c.in_ok-clone-in-Fn.ensures.cases c.in_ok-copy_reprs-in-Fn.ensures c.in_ok-copy_return-in-Fn.ensures

pub copy_nominal-returns : goal.copy_nominal-returns
copy_nominal-returns t c = applied_copied c.args.nominal.now c.in_ok-path.path c.in_ok-types.types c.in_ok-path.ensures.cases c.in_ok-types.ensures

pub copy_boxed-returns : goal.copy_boxed-returns
copy_boxed-returns t c = ap repr_view c.in_ok-new.ensures.ok ∙ c.in_ok-copy.ensures ∙ ap repr_view c.deref.ensures

pub copy_return-returns-in-None : goal.copy_return-returns-in-None
copy_return-returns-in-None t c = rw (c.in-None.is) refl

pub copy_return-returns-in_ok-new-in-Some : goal.copy_return-returns-in_ok-new-in-Some
copy_return-returns-in_ok-new-in-Some t c = rw (c.in-Some.is) (ap Some (ap repr_view c.in_ok-new-in-Some.ensures.ok ∙ c.in_ok-copy_repr-in-Some.ensures ∙ ap repr_view c.deref.ensures))

pub copy_reprs-loop-inner-init : goal.copy_reprs-loop-inner-init
copy_reprs-loop-inner-init t c = rw (c.in_ok-copies.ensures.items) refl

pub copy_reprs-loop-inner-preserved : goal.copy_reprs-loop-inner-preserved
copy_reprs-loop-inner-preserved t c =
    rw (c.in_ok-push.ensures.items)
    (shape_more repr_view repr_view c.deref-inner-items.result.now c.loop-inner.copies.items c.loop-inner.inner-index c.inner-item.result c.in_ok-copy_repr.field-0 c.loop-inner-test.true c.loop-inner.invariant (rw (← c.inner-item.is) c.in_ok-copy_repr.ensures))

pub copy_reprs-loop-inner-smaller : goal.copy_reprs-loop-inner-smaller
copy_reprs-loop-inner-smaller t c = falls _ _ c.loop-inner-test.true

pub copy_boxed-returns-in_err-copy : goal.copy_boxed-returns-in_err-copy
copy_boxed-returns-in_err-copy t c = IfOk-from_err _ _ c.from_residual.ensures.0

pub copy_boxed-returns-in_err-new : goal.copy_boxed-returns-in_err-new
copy_boxed-returns-in_err-new t c = IfOk-from_err _ _ c.from_residual-in_err-new.ensures.0

pub copy_nominal-returns-in_err-path : goal.copy_nominal-returns-in_err-path
copy_nominal-returns-in_err-path t c = IfOk-from_err _ _ c.from_residual.ensures.0

pub copy_nominal-returns-in_err-types : goal.copy_nominal-returns-in_err-types
copy_nominal-returns-in_err-types t c = IfOk-from_err _ _ c.from_residual-in_err-types.ensures.0

pub copy_repr-returns-in_err-clone-in-Associated : goal.copy_repr-returns-in_err-clone-in-Associated
copy_repr-returns-in_err-clone-in-Associated t c = IfOk-from_err _ _ c.from_residual-in_err-clone-in-Associated.ensures.0

pub copy_repr-returns-in_err-clone-in-Associated-2 : goal.copy_repr-returns-in_err-clone-in-Associated-2
copy_repr-returns-in_err-clone-in-Associated-2 t c = IfOk-from_err _ _ c.from_residual-in_err-clone-in-Associated-2.ensures.0

pub copy_repr-returns-in_err-clone-in-Fn : goal.copy_repr-returns-in_err-clone-in-Fn
copy_repr-returns-in_err-clone-in-Fn t c = IfOk-from_err _ _ c.from_residual-in_err-clone-in-Fn.ensures.0

pub copy_repr-returns-in_err-clone-in-Lifetime : goal.copy_repr-returns-in_err-clone-in-Lifetime
copy_repr-returns-in_err-clone-in-Lifetime t c = IfOk-from_err _ _ c.from_residual-in_err-clone-in-Lifetime.ensures.0

pub copy_repr-returns-in_err-clone-in-Ref : goal.copy_repr-returns-in_err-clone-in-Ref
copy_repr-returns-in_err-clone-in-Ref t c = IfOk-from_err _ _ c.from_residual-in_err-clone-in-Ref.ensures.0

pub copy_repr-returns-in_err-copy_boxed-in-Ref : goal.copy_repr-returns-in_err-copy_boxed-in-Ref
copy_repr-returns-in_err-copy_boxed-in-Ref t c = IfOk-from_err _ _ c.from_residual-in_err-copy_boxed-in-Ref.ensures.0

pub copy_repr-returns-in_err-copy_boxed-in-Slice : goal.copy_repr-returns-in_err-copy_boxed-in-Slice
copy_repr-returns-in_err-copy_boxed-in-Slice t c = IfOk-from_err _ _ c.from_residual-in_err-copy_boxed-in-Slice.ensures.0

pub copy_repr-returns-in_err-copy_nominal-in-Nominal : goal.copy_repr-returns-in_err-copy_nominal-in-Nominal
copy_repr-returns-in_err-copy_nominal-in-Nominal t c = IfOk-from_err _ _ c.from_residual-in_err-copy_nominal-in-Nominal.ensures.0

pub copy_repr-returns-in_err-copy_nominal-in-TraitObject : goal.copy_repr-returns-in_err-copy_nominal-in-TraitObject
copy_repr-returns-in_err-copy_nominal-in-TraitObject t c = IfOk-from_err _ _ c.from_residual-in_err-copy_nominal-in-TraitObject.ensures.0

pub copy_repr-returns-in_err-copy_reprs-in-Fn : goal.copy_repr-returns-in_err-copy_reprs-in-Fn
copy_repr-returns-in_err-copy_reprs-in-Fn t c = IfOk-from_err _ _ c.from_residual-in_err-copy_reprs-in-Fn.ensures.0

pub copy_repr-returns-in_err-copy_reprs-in-Tuple : goal.copy_repr-returns-in_err-copy_reprs-in-Tuple
copy_repr-returns-in_err-copy_reprs-in-Tuple t c = IfOk-from_err _ _ c.from_residual.ensures.0

pub copy_repr-returns-in_err-copy_return-in-Fn : goal.copy_repr-returns-in_err-copy_return-in-Fn
copy_repr-returns-in_err-copy_return-in-Fn t c = IfOk-from_err _ _ c.from_residual-in_err-copy_return-in-Fn.ensures.0

pub copy_repr-returns-in_err-copy_type_parameters-in-Fn : goal.copy_repr-returns-in_err-copy_type_parameters-in-Fn
copy_repr-returns-in_err-copy_type_parameters-in-Fn t c = IfOk-from_err _ _ c.from_residual-in_err-copy_type_parameters-in-Fn.ensures.0

pub copy_reprs-returns-in_err-copies : goal.copy_reprs-returns-in_err-copies
copy_reprs-returns-in_err-copies t c = IfOk-from_err _ _ c.from_residual.ensures.0

pub copy_reprs-returns-in_err-copy_repr : goal.copy_reprs-returns-in_err-copy_repr
copy_reprs-returns-in_err-copy_repr t c = IfOk-from_err _ _ c.from_residual-in_err-copy_repr.ensures.0

pub copy_reprs-returns-in_err-push : goal.copy_reprs-returns-in_err-push
copy_reprs-returns-in_err-push t c = IfOk-from_err _ _ c.from_residual-in_err-push.ensures.0

pub copy_return-returns-in_err-copy_repr-in-Some : goal.copy_return-returns-in_err-copy_repr-in-Some
copy_return-returns-in_err-copy_repr-in-Some t c = IfOk-from_err _ _ c.from_residual.ensures.0

pub copy_return-returns-in_err-new-in-Some : goal.copy_return-returns-in_err-new-in-Some
copy_return-returns-in_err-new-in-Some t c = IfOk-from_err _ _ c.from_residual-in_err-new-in-Some.ensures.0

pub copy_reprs-returns : goal.copy_reprs-returns
copy_reprs-returns t c = ap reprs_of (c.loop-inner.invariant ∙ ap (map repr_view) (take_all c.loop-inner.inner-index c.deref-inner-items.result.now c.loop-inner-test.false ∙ c.deref-inner-items.ensures.value))

pub copy_repr-copy_reprs-requires : goal.copy_repr-copy_reprs-requires
copy_repr-copy_reprs-requires t c = (to_tuple t c.args.ty.now c.in-Tuple.types c.in-Tuple.is c.decreases, tt)

pub copy_repr-copy_boxed-requires : goal.copy_repr-copy_boxed-requires
copy_repr-copy_boxed-requires t c = (to_slice t c.args.ty.now c.in-Slice.inner c.in-Slice.is c.decreases, tt)

pub copy_repr-copy_nominal-requires : goal.copy_repr-copy_nominal-requires
copy_repr-copy_nominal-requires t c = (to_nominal t c.args.ty.now c.in-Nominal.nominal c.in-Nominal.is c.decreases, tt)

pub copy_repr-copy_boxed-requires-in-Ref : goal.copy_repr-copy_boxed-requires-in-Ref
copy_repr-copy_boxed-requires-in-Ref t c = (to_referent t c.args.ty.now c.in-Ref.lifetime c.in-Ref.mutable c.in-Ref.referent c.in-Ref.is c.decreases, tt)

pub copy_repr-copy_nominal-requires-in-TraitObject : goal.copy_repr-copy_nominal-requires-in-TraitObject
copy_repr-copy_nominal-requires-in-TraitObject t c = (to_object t c.args.ty.now c.in-TraitObject.nominal c.in-TraitObject.is c.decreases, tt)

pub copy_nominal-copy_reprs-requires : goal.copy_nominal-copy_reprs-requires
copy_nominal-copy_reprs-requires t c = (to_arguments t c.args.nominal.now c.decreases, tt)

pub copy_boxed-copy_repr-requires : goal.copy_boxed-copy_repr-requires
copy_boxed-copy_repr-requires t c = (to_value t c.args.ty.now.value c.deref.result.now c.deref.ensures c.decreases, tt)

pub copy_reprs-copy_repr-requires : goal.copy_reprs-copy_repr-requires
copy_reprs-copy_repr-requires t c = (to_one t c.deref-inner-items.result.now c.loop-inner.inner-index c.inner-item.result c.args.types.now.items c.loop-inner-test.true c.inner-item.is c.deref-inner-items.ensures.value c.decreases, tt)
