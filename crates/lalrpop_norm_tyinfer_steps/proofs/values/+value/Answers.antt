use Rattle.std.proofs.Common.{List, Some, option_map, refl, sym, ap, ◌∙◌}
use Rattle.std.proofs.lemmas.Result.{IfOk-from_err}
use borrow.Author.Count.{falls}
use Rattle.lalrpop_norm_tree_parts.specs.Paths.{path_view}
use Rattle.lalrpop_norm_tree_parts.specs.Reprs as lowered
use Rattle.lalrpop_norm_tree_parts.specs.Reprs.{Reprs}
use Rattle.lalrpop_norm_tree.specs.declared.types.TypeRef.{TypeRef}
use Rattle.lalrpop_norm_tree.specs.Types.{type_view, types_view}
use Rattle.lalrpop_norm_tyinfer_steps.specs.Numbered.{numbered_table}
use Rattle.lalrpop_norm_tyinfer_steps.specs.TableValues.{type_in, types_in}
use Rattle.lalrpop_norm_tree.proofs.TypeViews.{symbol_is, lifetime_is, id_is}
use Rattle.lalrpop_norm_tree.proofs.WrittenTextLemmas.{view_slice, view_reference, view_object}
use Rattle.lalrpop_norm_tyinfer_steps.proofs.LoweredViews.{tuple_seen, nominal_seen, function_seen, value_as, is_value, made_of, over_pair}
use Rattle.lalrpop_norm_shared_types.proofs.SharedSeen as whole
use Rattle.lalrpop_norm_tyinfer_steps.proofs.SharedLevels as seen
use Rattle.lalrpop_norm_tyinfer_steps.proofs.ValueLemmas.{before_nothing, next_value, last_value}
use Rattle.lalrpop_norm_tyinfer_steps.proofs.WrittenSizes.{in_tuple, in_slice, in_nominal, in_reference, in_object, in_parameters, in_row, under_five, of_five, next_rank}
use Rattle.lalrpop_norm_tyinfer_steps.proofs.values.+value.Goals as goal

pub all_values-loop-inner-preserved : goal.all_values-loop-inner-preserved
all_values-loop-inner-preserved t c =
    let ps = c.args.parameters.now in
    let tt = numbered_table c.args.types.now in
    rw c.in_ok-push-in-Some.ensures.items
    (next_value (λ (ts : List TypeRef). types_in ps tt (types_view ts)) (λ (t : TypeRef). type_in ps tt (type_view t)) (λ t ts. refl)
    c.args.written.now c.loop-inner.inner-index c.inner-item.result c.loop-inner.values.items c.in-Some.ty _
    c.loop-inner-test.true c.inner-item.is (rw c.in-Some.is at c.in_ok-ty.ensures) c.loop-inner.invariant)

pub all_values-returns : goal.all_values-returns
all_values-returns t c =
    let ps = c.args.parameters.now in
    let tt = numbered_table c.args.types.now in
    last_value (λ (ts : List TypeRef). types_in ps tt (types_view ts)) (λ (t : TypeRef). type_in ps tt (type_view t)) refl
    c.args.written.now c.loop-inner.inner-index c.loop-inner.values.items _ c.loop-inner-test.false c.loop-inner.invariant

pub type_value-returns-in-Tuple : goal.type_value-returns-in-Tuple
type_value-returns-in-Tuple t c = value_as _ _ _ _ _ (tuple_seen _ _ _ c.in-Tuple.is c.deref.ensures.value) c.tuple_value.ensures

pub type_value-returns-in-Slice : goal.type_value-returns-in-Slice
type_value-returns-in-Slice t c = value_as _ _ _ _ _ (sym (view_slice _ _ _ c.in-Slice.is c.deref-in-Slice.ensures)) c.slice_value.ensures

pub type_value-returns-in-Nominal : goal.type_value-returns-in-Nominal
type_value-returns-in-Nominal t c = value_as _ _ _ _ _ (nominal_seen _ _ _ _ c.in-Nominal.is c.deref-in-Nominal.ensures.value) c.path_value.ensures

pub type_value-returns-in-Ref : goal.type_value-returns-in-Ref
type_value-returns-in-Ref t c = value_as _ _ _ _ _ (sym (view_reference _ _ _ _ _ c.in-Ref.is c.deref-in-Ref.ensures)) c.reference_value.ensures

pub type_value-returns-in-TraitObject : goal.type_value-returns-in-TraitObject
type_value-returns-in-TraitObject t c = value_as _ _ _ _ _ (sym (view_object _ _ _ _ c.in-TraitObject.is c.deref-in-TraitObject.ensures.value)) c.object_value.ensures

pub type_value-returns-in-OfSymbol : goal.type_value-returns-in-OfSymbol
type_value-returns-in-OfSymbol t c = value_as _ _ _ _ _ (symbol_is _ _ c.in-OfSymbol.is) c.kind_value.ensures

pub type_value-tuple_value-requires : goal.type_value-tuple_value-requires
type_value-tuple_value-requires t c = (under_five t _ _ 2 2 refl (in_tuple c.args.written.now _ c.deref.result.now c.in-Tuple.is c.deref.ensures.value) c.decreases, tt)

pub type_value-slice_value-requires : goal.type_value-slice_value-requires
type_value-slice_value-requires t c = (under_five t _ _ 1 3 refl (in_slice c.args.written.now _ c.deref-in-Slice.result.now c.in-Slice.is c.deref-in-Slice.ensures) c.decreases, tt)

pub type_value-path_value-requires : goal.type_value-path_value-requires
type_value-path_value-requires t c = (under_five t _ _ 4 0 refl (in_nominal c.args.written.now _ _ c.deref-in-Nominal.result.now c.in-Nominal.is c.deref-in-Nominal.ensures.value) c.decreases, tt)

pub type_value-reference_value-requires : goal.type_value-reference_value-requires
type_value-reference_value-requires t c = (under_five t _ _ 1 3 refl (in_reference c.args.written.now _ _ _ c.deref-in-Ref.result.now c.in-Ref.is c.deref-in-Ref.ensures) c.decreases, tt)

pub type_value-object_value-requires : goal.type_value-object_value-requires
type_value-object_value-requires t c = (under_five t _ _ 3 1 refl (in_object c.args.written.now _ _ c.deref-in-TraitObject.result.now c.in-TraitObject.is c.deref-in-TraitObject.ensures.value) c.decreases, tt)

pub type_value-all_values-requires : goal.type_value-all_values-requires
type_value-all_values-requires t c = (under_five t _ _ 1 3 refl (in_parameters c.args.written.now _ _ _ _ c.deref-in-Fn.result.now c.in-Fn.is c.deref-in-Fn.ensures.value) c.decreases, tt)

pub slice_value-type_value-requires : goal.slice_value-type_value-requires
slice_value-type_value-requires t c = (next_rank t _ 0 0 c.decreases, tt)

pub reference_value-type_value-requires : goal.reference_value-type_value-requires
reference_value-type_value-requires t c = (next_rank t _ 0 0 c.decreases, tt)

pub path_value-nominal_value-requires : goal.path_value-nominal_value-requires
path_value-nominal_value-requires t c = (next_rank t _ 3 0 c.decreases, tt)

pub nominal_value-applied_value-requires : goal.nominal_value-applied_value-requires
nominal_value-applied_value-requires t c = (next_rank t _ 2 0 c.decreases, tt)

pub object_value-applied_value-requires : goal.object_value-applied_value-requires
object_value-applied_value-requires t c = (next_rank t _ 2 0 c.decreases, tt)

pub tuple_value-all_values-requires : goal.tuple_value-all_values-requires
tuple_value-all_values-requires t c = (next_rank t _ 1 0 c.decreases, tt)

pub applied_value-all_values-requires : goal.applied_value-all_values-requires
applied_value-all_values-requires t c = (next_rank t _ 1 0 c.decreases, tt)

pub all_values-type_value-requires : goal.all_values-type_value-requires
all_values-type_value-requires t c = (of_five t _ _ 0 0 (in_row _ _ _ c.loop-inner-test.true c.inner-item.is) c.decreases, tt)

pub all_values-loop-inner-init : goal.all_values-loop-inner-init
all_values-loop-inner-init t c = rw c.in_ok-values.ensures.items (before_nothing _)

pub all_values-loop-inner-smaller : goal.all_values-loop-inner-smaller
all_values-loop-inner-smaller t c = falls _ _ c.loop-inner-test.true

pub slice_value-returns-in_err-ty : goal.slice_value-returns-in_err-ty
slice_value-returns-in_err-ty t c = IfOk-from_err _ _ c.from_residual.ensures.0

pub tuple_value-returns-in_err-inner : goal.tuple_value-returns-in_err-inner
tuple_value-returns-in_err-inner t c = IfOk-from_err _ _ c.from_residual.ensures.0

pub reference_value-returns-in_err-referent : goal.reference_value-returns-in_err-referent
reference_value-returns-in_err-referent t c = IfOk-from_err _ _ c.from_residual.ensures.0

pub applied_value-returns-in_err-types : goal.applied_value-returns-in_err-types
applied_value-returns-in_err-types t c = IfOk-from_err _ _ c.from_residual.ensures.0

pub applied_value-returns-in_err-applied_to-in-Some : goal.applied_value-returns-in_err-applied_to-in-Some
applied_value-returns-in_err-applied_to-in-Some t c = IfOk-from_err _ _ c.from_residual-in_err-applied_to-in-Some.ensures.0

pub nominal_value-returns-in_err-applied : goal.nominal_value-returns-in_err-applied
nominal_value-returns-in_err-applied t c = IfOk-from_err _ _ c.from_residual.ensures.0

pub object_value-returns-in_err-applied : goal.object_value-returns-in_err-applied
object_value-returns-in_err-applied t c = IfOk-from_err _ _ c.from_residual.ensures.0

pub return_value-returns-in_err-ty-in-Some : goal.return_value-returns-in_err-ty-in-Some
return_value-returns-in_err-ty-in-Some t c = IfOk-from_err _ _ c.from_residual.ensures.0

pub all_values-returns-in_err-values : goal.all_values-returns-in_err-values
all_values-returns-in_err-values t c = IfOk-from_err _ _ c.from_residual.ensures.0

pub all_values-returns-in_err-ty : goal.all_values-returns-in_err-ty
all_values-returns-in_err-ty t c = IfOk-from_err _ _ c.from_residual-in_err-ty.ensures.0

pub all_values-returns-in_err-push-in-Some : goal.all_values-returns-in_err-push-in-Some
all_values-returns-in_err-push-in-Some t c = IfOk-from_err _ _ c.from_residual-in_err-push-in-Some.ensures.0

pub type_value-returns-in_err-inner-in-Fn : goal.type_value-returns-in_err-inner-in-Fn
type_value-returns-in_err-inner-in-Fn t c = IfOk-from_err _ _ c.from_residual.ensures.0

pub type_value-returns-in_err-ret-in-Fn : goal.type_value-returns-in_err-ret-in-Fn
type_value-returns-in_err-ret-in-Fn t c = IfOk-from_err _ _ c.from_residual-in_err-ret-in-Fn.ensures.0

pub slice_value-returns-in-Some : goal.slice_value-returns-in-Some
slice_value-returns-in-Some t c = is_value _ _ _ (ap Some (seen.slice_seen _) ∙ ap (option_map lowered.slice) (rw c.in-Some.is at c.in_ok-ty.ensures)) c.made.ensures

pub slice_value-returns-in-None : goal.slice_value-returns-in-None
slice_value-returns-in-None t c = ap (option_map lowered.slice) (rw c.in-None.is at c.in_ok-ty.ensures)

pub tuple_value-returns-in-Some : goal.tuple_value-returns-in-Some
tuple_value-returns-in-Some t c = is_value _ _ _ (ap Some (whole.tuple_seen _) ∙ ap (option_map lowered.tuple) (rw c.in-Some.is at c.in_ok-inner.ensures)) c.made.ensures

pub tuple_value-returns-in-None : goal.tuple_value-returns-in-None
tuple_value-returns-in-None t c = ap (option_map lowered.tuple) (rw c.in-None.is at c.in_ok-inner.ensures)

pub reference_value-returns-in-Some : goal.reference_value-returns-in-Some
reference_value-returns-in-Some t c = is_value _ _ _ (ap (option_map (lowered.reference c.args.lifetime.now c.args.mutable)) (rw c.in-Some.is at c.in_ok-referent.ensures)) c.reference_type.ensures

pub reference_value-returns-in-None : goal.reference_value-returns-in-None
reference_value-returns-in-None t c = ap (option_map (lowered.reference c.args.lifetime.now c.args.mutable)) (rw c.in-None.is at c.in_ok-referent.ensures)

pub applied_value-returns-in_ok-applied_to-in-Some : goal.applied_value-returns-in_ok-applied_to-in-Some
applied_value-returns-in_ok-applied_to-in-Some t c = ap Some c.in_ok-applied_to-in-Some.ensures ∙ ap (option_map (λ (xs : Reprs). (path_view c.args.path.now, xs))) (rw c.in-Some.is at c.in_ok-types.ensures)

pub applied_value-returns-in-None : goal.applied_value-returns-in-None
applied_value-returns-in-None t c = ap (option_map (λ (xs : Reprs). (path_view c.args.path.now, xs))) (rw c.in-None.is at c.in_ok-types.ensures)

pub nominal_value-returns-in-Some : goal.nominal_value-returns-in-Some
nominal_value-returns-in-Some t c = is_value _ _ _ (ap Some (seen.nominal_seen _) ∙ over_pair lowered.nominal (path_view c.args.path.now) _ _ (rw c.in-Some.is at c.in_ok-applied.ensures)) c.made.ensures

pub nominal_value-returns-in-None : goal.nominal_value-returns-in-None
nominal_value-returns-in-None t c = over_pair lowered.nominal (path_view c.args.path.now) _ _ (rw c.in-None.is at c.in_ok-applied.ensures)

pub object_value-returns-in-Some : goal.object_value-returns-in-Some
object_value-returns-in-Some t c = is_value _ _ _ (ap Some (seen.object_seen _) ∙ over_pair lowered.trait_object (path_view c.args.path.now) _ _ (rw c.in-Some.is at c.in_ok-applied.ensures)) c.made.ensures

pub object_value-returns-in-None : goal.object_value-returns-in-None
object_value-returns-in-None t c = over_pair lowered.trait_object (path_view c.args.path.now) _ _ (rw c.in-None.is at c.in_ok-applied.ensures)

pub type_value-returns-in-Lifetime : goal.type_value-returns-in-Lifetime
type_value-returns-in-Lifetime t c = value_as _ _ _ _ _ (lifetime_is _ _ c.in-Lifetime.is) c.lifetime_type.ensures

pub type_value-returns-in-Id : goal.type_value-returns-in-Id
type_value-returns-in-Id t c = value_as _ _ _ _ _ (id_is _ _ c.in-Id.is) c.named_type.ensures

pub type_value-returns-in_ok-ret-in-Fn : goal.type_value-returns-in_ok-ret-in-Fn
type_value-returns-in_ok-ret-in-Fn t c =
    value_as _ _ _ _ _ (function_seen _ _ _ _ _ _ c.in-Fn.is c.deref-in-Fn.ensures.value)
    (made_of (lowered.function c.in-Fn.forall.items (path_view c.in-Fn.path)) _ _ _ _ _ c.in_ok-inner-in-Fn.ensures c.in_ok-ret-in-Fn.ensures c.function_of.ensures)

pub return_value-returns-in-None : goal.return_value-returns-in-None
return_value-returns-in-None t c = rw c.in-None.is refl
