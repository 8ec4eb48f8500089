use Rattle.std.proofs.Common.{Some, map, refl, ap, ◌∙◌}
use Rattle.std.proofs.lemmas.List.{take_all}
use Rattle.std.proofs.lemmas.Result.{IfOk-from_err}
use borrow.Author.Count.{falls}
use Rattle.lalrpop_norm_tree_parts.proofs.WalkLemmas.{shape_more}
use Rattle.lalrpop_norm_tree.specs.Types.{type_view}
use Rattle.lalrpop_norm_tree.proofs.TypeCopies.{tuple_copied, slice_copied, nominal_copied, reference_copied, object_copied, lifetime_copied, id_copied, symbol_copied, function_copied}
use Rattle.lalrpop_norm_tree.proofs.TypeSizes.{to_tuple, to_slice, to_nominal, to_referent, to_object, to_parameters, to_one}
use Rattle.lalrpop_norm_tree.proofs.types.copy.+copy.Goals as goal

pub copy-returns-in_ok-copy_all-in-Tuple : goal.copy-returns-in_ok-copy_all-in-Tuple
copy-returns-in_ok-copy_all-in-Tuple t c =
    tuple_copied c.args.written.now c.in-Tuple.types c.in_ok-copy_all-in-Tuple.field-0 c.in-Tuple.is (rw (← c.deref.ensures.value) c.in_ok-copy_all-in-Tuple.ensures)

pub copy-returns-in_ok-new-in-Slice : goal.copy-returns-in_ok-new-in-Slice
copy-returns-in_ok-new-in-Slice t c =
    slice_copied c.args.written.now c.in-Slice.inner c.in_ok-new-in-Slice.field-0 c.in-Slice.is
    (ap type_view c.in_ok-new-in-Slice.ensures.ok ∙ c.in_ok-copy-in-Slice.ensures ∙ ap type_view c.deref-in-Slice.ensures)

pub copy-returns-in_ok-copy_all-in-Nominal : goal.copy-returns-in_ok-copy_all-in-Nominal
copy-returns-in_ok-copy_all-in-Nominal t c =
    nominal_copied c.args.written.now c.in-Nominal.path c.in_ok-clone-in-Nominal.field-0 c.in-Nominal.types c.in_ok-copy_all-in-Nominal.field-0 c.in-Nominal.is
    c.in_ok-clone-in-Nominal.ensures.cases (rw (← c.deref-in-Nominal.ensures.value) c.in_ok-copy_all-in-Nominal.ensures)

pub copy-returns-in_ok-new-in-Ref : goal.copy-returns-in_ok-new-in-Ref
copy-returns-in_ok-new-in-Ref t c =
    reference_copied c.args.written.now c.in-Ref.lifetime c.in_ok-clone-in-Ref.field-0 c.in-Ref.mutable c.in-Ref.referent c.in_ok-new-in-Ref.field-0 c.in-Ref.is c.in_ok-clone-in-Ref.ensures.cases
    (ap type_view c.in_ok-new-in-Ref.ensures.ok ∙ c.in_ok-copy-in-Ref.ensures ∙ ap type_view c.deref-in-Ref.ensures)

pub copy-returns-in_ok-copy_all-in-TraitObject : goal.copy-returns-in_ok-copy_all-in-TraitObject
copy-returns-in_ok-copy_all-in-TraitObject t c =
    object_copied c.args.written.now c.in-TraitObject.path c.in_ok-clone-in-TraitObject.field-0 c.in-TraitObject.types c.in_ok-copy_all-in-TraitObject.field-0 c.in-TraitObject.is
    c.in_ok-clone-in-TraitObject.ensures.cases (rw (← c.deref-in-TraitObject.ensures.value) c.in_ok-copy_all-in-TraitObject.ensures)

pub copy-returns-in_ok-clone-in-Lifetime : goal.copy-returns-in_ok-clone-in-Lifetime
copy-returns-in_ok-clone-in-Lifetime t c = lifetime_copied c.args.written.now c.in-Lifetime.lifetime c.in_ok-clone-in-Lifetime.field-0 c.in-Lifetime.is c.in_ok-clone-in-Lifetime.ensures.cases

pub copy-returns-in_ok-clone-in-Id : goal.copy-returns-in_ok-clone-in-Id
copy-returns-in_ok-clone-in-Id t c = id_copied c.args.written.now c.in-Id.id c.in_ok-clone-in-Id.field-0 c.in-Id.is c.in_ok-clone-in-Id.ensures.cases

pub copy-returns-in_ok-clone-in-OfSymbol : goal.copy-returns-in_ok-clone-in-OfSymbol
copy-returns-in_ok-clone-in-OfSymbol t c = symbol_copied c.args.written.now c.in-OfSymbol.kind c.in_ok-clone-in-OfSymbol.field-0 c.in-OfSymbol.is c.in_ok-clone-in-OfSymbol.ensures.cases

pub copy-returns-in_ok-copy_return-in-Fn : goal.copy-returns-in_ok-copy_return-in-Fn
copy-returns-in_ok-copy_return-in-Fn t c =
    function_copied c.args.written.now c.in-Fn.forall c.in_ok-copy_type_parameters-in-Fn.field-0 c.in-Fn.path c.in_ok-clone-in-Fn.field-0 c.in-Fn.parameters c.in_ok-copy_all-in-Fn.field-0 c.in-Fn.ret c.in_ok-copy_return-in-Fn.field-0 c.in-Fn.is
    c.in_ok-copy_type_parameters-in-Fn.ensures c.in_ok-clone-in-Fn.ensures.cases (rw (← c.deref-in-Fn.ensures.value) c.in_ok-copy_all-in-Fn.ensures) c.in_ok-copy_return-in-Fn.ensures

pub copy_return-returns-in-None : goal.copy_return-returns-in-None
copy_return-returns-in-None t c = rw (c.in-None.is) refl

pub copy_return-returns-in_ok-new-in-Some : goal.copy_return-returns-in_ok-new-in-Some
copy_return-returns-in_ok-new-in-Some t c = rw (c.in-Some.is) (ap Some (ap type_view c.in_ok-new-in-Some.ensures.ok ∙ c.in_ok-copy-in-Some.ensures ∙ ap type_view c.deref.ensures))

pub copy_all-loop-inner-init : goal.copy_all-loop-inner-init
copy_all-loop-inner-init t c = rw (c.in_ok-copies.ensures.items) refl

pub copy_all-loop-inner-preserved : goal.copy_all-loop-inner-preserved
copy_all-loop-inner-preserved t c =
    rw (c.in_ok-push.ensures.items)
    (shape_more type_view type_view c.args.types.now c.loop-inner.copies.items c.loop-inner.inner-index c.inner-item.result c.in_ok-copy.field-0 c.loop-inner-test.true c.loop-inner.invariant (rw (← c.inner-item.is) c.in_ok-copy.ensures))

pub copy_all-loop-inner-smaller : goal.copy_all-loop-inner-smaller
copy_all-loop-inner-smaller t c = falls _ _ c.loop-inner-test.true

pub copy_all-returns : goal.copy_all-returns
copy_all-returns t c = c.loop-inner.invariant ∙ ap (map type_view) (take_all c.loop-inner.inner-index c.args.types.now c.loop-inner-test.false)

pub copy-copy_all-requires : goal.copy-copy_all-requires
copy-copy_all-requires t c = (to_tuple t c.args.written.now c.in-Tuple.types c.deref.result.now c.in-Tuple.is c.deref.ensures.value c.decreases, tt)

pub copy-copy-requires : goal.copy-copy-requires
copy-copy-requires t c = (to_slice t c.args.written.now c.in-Slice.inner c.deref-in-Slice.result.now c.in-Slice.is c.deref-in-Slice.ensures c.decreases, tt)

pub copy-copy_all-requires-in-Nominal : goal.copy-copy_all-requires-in-Nominal
copy-copy_all-requires-in-Nominal t c = (to_nominal t c.args.written.now c.in-Nominal.path c.in-Nominal.types c.deref-in-Nominal.result.now c.in-Nominal.is c.deref-in-Nominal.ensures.value c.decreases, tt)

pub copy-copy-requires-in-Ref : goal.copy-copy-requires-in-Ref
copy-copy-requires-in-Ref t c = (to_referent t c.args.written.now c.in-Ref.lifetime c.in-Ref.mutable c.in-Ref.referent c.deref-in-Ref.result.now c.in-Ref.is c.deref-in-Ref.ensures c.decreases, tt)

pub copy-copy_all-requires-in-TraitObject : goal.copy-copy_all-requires-in-TraitObject
copy-copy_all-requires-in-TraitObject t c = (to_object t c.args.written.now c.in-TraitObject.path c.in-TraitObject.types c.deref-in-TraitObject.result.now c.in-TraitObject.is c.deref-in-TraitObject.ensures.value c.decreases, tt)

pub copy-copy_all-requires-in-Fn : goal.copy-copy_all-requires-in-Fn
copy-copy_all-requires-in-Fn t c = (to_parameters t c.args.written.now c.in-Fn.forall c.in-Fn.path c.in-Fn.parameters c.in-Fn.ret c.deref-in-Fn.result.now c.in-Fn.is c.deref-in-Fn.ensures.value c.decreases, tt)

pub copy_all-copy-requires : goal.copy_all-copy-requires
copy_all-copy-requires t c = (to_one t c.args.types.now c.loop-inner.inner-index c.inner-item.result c.loop-inner-test.true c.inner-item.is c.decreases, tt)

pub copy-returns-in_err-clone-in-Fn : goal.copy-returns-in_err-clone-in-Fn
copy-returns-in_err-clone-in-Fn t c = IfOk-from_err _ _ c.from_residual-in_err-clone-in-Fn.ensures.0

pub copy-returns-in_err-clone-in-Id : goal.copy-returns-in_err-clone-in-Id
copy-returns-in_err-clone-in-Id t c = IfOk-from_err _ _ c.from_residual-in_err-clone-in-Id.ensures.0

pub copy-returns-in_err-clone-in-Lifetime : goal.copy-returns-in_err-clone-in-Lifetime
copy-returns-in_err-clone-in-Lifetime t c = IfOk-from_err _ _ c.from_residual-in_err-clone-in-Lifetime.ensures.0

pub copy-returns-in_err-clone-in-Nominal : goal.copy-returns-in_err-clone-in-Nominal
copy-returns-in_err-clone-in-Nominal t c = IfOk-from_err _ _ c.from_residual-in_err-clone-in-Nominal.ensures.0

pub copy-returns-in_err-clone-in-OfSymbol : goal.copy-returns-in_err-clone-in-OfSymbol
copy-returns-in_err-clone-in-OfSymbol t c = IfOk-from_err _ _ c.from_residual-in_err-clone-in-OfSymbol.ensures.0

pub copy-returns-in_err-clone-in-Ref : goal.copy-returns-in_err-clone-in-Ref
copy-returns-in_err-clone-in-Ref t c = IfOk-from_err _ _ c.from_residual-in_err-clone-in-Ref.ensures.0

pub copy-returns-in_err-clone-in-TraitObject : goal.copy-returns-in_err-clone-in-TraitObject
copy-returns-in_err-clone-in-TraitObject t c = IfOk-from_err _ _ c.from_residual-in_err-clone-in-TraitObject.ensures.0

pub copy-returns-in_err-copy-in-Ref : goal.copy-returns-in_err-copy-in-Ref
copy-returns-in_err-copy-in-Ref t c = IfOk-from_err _ _ c.from_residual-in_err-copy-in-Ref.ensures.0

pub copy-returns-in_err-copy-in-Slice : goal.copy-returns-in_err-copy-in-Slice
copy-returns-in_err-copy-in-Slice t c = IfOk-from_err _ _ c.from_residual-in_err-copy-in-Slice.ensures.0

pub copy-returns-in_err-copy_all-in-Fn : goal.copy-returns-in_err-copy_all-in-Fn
copy-returns-in_err-copy_all-in-Fn t c = IfOk-from_err _ _ c.from_residual-in_err-copy_all-in-Fn.ensures.0

pub copy-returns-in_err-copy_all-in-Nominal : goal.copy-returns-in_err-copy_all-in-Nominal
copy-returns-in_err-copy_all-in-Nominal t c = IfOk-from_err _ _ c.from_residual-in_err-copy_all-in-Nominal.ensures.0

pub copy-returns-in_err-copy_all-in-TraitObject : goal.copy-returns-in_err-copy_all-in-TraitObject
copy-returns-in_err-copy_all-in-TraitObject t c = IfOk-from_err _ _ c.from_residual-in_err-copy_all-in-TraitObject.ensures.0

pub copy-returns-in_err-copy_all-in-Tuple : goal.copy-returns-in_err-copy_all-in-Tuple
copy-returns-in_err-copy_all-in-Tuple t c = IfOk-from_err _ _ c.from_residual.ensures.0

pub copy-returns-in_err-copy_return-in-Fn : goal.copy-returns-in_err-copy_return-in-Fn
copy-returns-in_err-copy_return-in-Fn t c = IfOk-from_err _ _ c.from_residual-in_err-copy_return-in-Fn.ensures.0

pub copy-returns-in_err-copy_type_parameters-in-Fn : goal.copy-returns-in_err-copy_type_parameters-in-Fn
copy-returns-in_err-copy_type_parameters-in-Fn t c = IfOk-from_err _ _ c.from_residual-in_err-copy_type_parameters-in-Fn.ensures.0

pub copy-returns-in_err-new-in-Ref : goal.copy-returns-in_err-new-in-Ref
copy-returns-in_err-new-in-Ref t c = IfOk-from_err _ _ c.from_residual-in_err-new-in-Ref.ensures.0

pub copy-returns-in_err-new-in-Slice : goal.copy-returns-in_err-new-in-Slice
copy-returns-in_err-new-in-Slice t c = IfOk-from_err _ _ c.from_residual-in_err-new-in-Slice.ensures.0

pub copy_all-returns-in_err-copies : goal.copy_all-returns-in_err-copies
copy_all-returns-in_err-copies t c = IfOk-from_err _ _ c.from_residual.ensures.0

pub copy_all-returns-in_err-copy : goal.copy_all-returns-in_err-copy
copy_all-returns-in_err-copy t c = IfOk-from_err _ _ c.from_residual-in_err-copy.ensures.0

pub copy_all-returns-in_err-push : goal.copy_all-returns-in_err-push
copy_all-returns-in_err-push t c = IfOk-from_err _ _ c.from_residual-in_err-push.ensures.0

pub copy_return-returns-in_err-copy-in-Some : goal.copy_return-returns-in_err-copy-in-Some
copy_return-returns-in_err-copy-in-Some t c = IfOk-from_err _ _ c.from_residual.ensures.0

pub copy_return-returns-in_err-new-in-Some : goal.copy_return-returns-in_err-new-in-Some
copy_return-returns-in_err-new-in-Some t c = IfOk-from_err _ _ c.from_residual-in_err-new-in-Some.ensures.0
