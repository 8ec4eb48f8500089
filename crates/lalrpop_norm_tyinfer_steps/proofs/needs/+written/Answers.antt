use Rattle.std.proofs.Common.{List, map, refl, sym}
use Rattle.std.specs.Prelude.{option_map}
use Rattle.std.proofs.lemmas.List.{map-append}
use Rattle.std.proofs.lemmas.Result.{IfOk-from_err}
use borrow.Author.Count.{falls}
use Rattle.lalrpop_norm_tree.specs.declared.types.TypeRef.{TypeRef}
use Rattle.lalrpop_norm_tree.specs.Types.{type_view, types_view, maybe_of}
use Rattle.lalrpop_norm_tree.proofs.TypeViews.{symbol_is}
use Rattle.lalrpop_norm_tree.proofs.WrittenTextLemmas.{view_slice, view_reference, view_object}
use Rattle.lalrpop_norm_common.proofs.ListLemmas.{next_collected}
use Rattle.lalrpop_norm_names.specs.Numbers.{number_in_table}
use Rattle.lalrpop_norm_tyinfer_steps.specs.Needs.{needed_type, needed_types, needed_return}
use Rattle.lalrpop_norm_tyinfer_steps.proofs.LoweredViews.{tuple_seen, nominal_seen}
use Rattle.lalrpop_norm_tyinfer_steps.proofs.NeedLemmas.{added_both}
use Rattle.lalrpop_norm_tyinfer_steps.proofs.WrittenSizes.{in_tuple, in_slice, in_nominal, in_reference, in_object, in_parameters, in_row, under_three, of_three, next_rank}
use Rattle.lalrpop_norm_tyinfer_steps.proofs.WrittenSymbols.{function_needs, needs_as}
use Rattle.lalrpop_norm_tyinfer_steps.proofs.needs.+written.Goals as goal

pub add_types-loop-inner-preserved : goal.add_types-loop-inner-preserved
add_types-loop-inner-preserved t c =
    let f = number_in_table c.args.names.now in
    let ps = c.args.parameters.now in
    next_collected (λ (ts : List TypeRef). map f (needed_types ps (types_view ts))) (λ (x : TypeRef). map f (needed_type ps (type_view x))) (λ x ts. map-append f (needed_type ps (type_view x)) (needed_types ps (types_view ts)))
    c.args.written.now c.loop-inner.inner-index c.inner-item.result c.loop-inner.numbers.items c.add_type.new.numbers.items _
    c.loop-inner-test.true c.inner-item.is c.in_ok-add_type.ensures c.loop-inner.invariant

pub add_type-returns-in_ok-add_types-in-Fn : goal.add_type-returns-in_ok-add_types-in-Fn
add_type-returns-in_ok-add_types-in-Fn t c =
    let one = rw c.deref-in-Fn.ensures.value at c.in_ok-add_types-in-Fn.ensures in
    let ps = c.args.parameters.now in
    rw (function_needs ps c.args.written.now c.in-Fn.forall c.in-Fn.path c.in-Fn.inner c.in-Fn.ret c.in-Fn.is)
    (added_both (number_in_table c.args.names.now) c.args.numbers.now.items c.add_types-in-Fn.new.numbers.items c.add_return.new.numbers.items (needed_types ps (types_view c.in-Fn.inner.items))
    (needed_return ps (maybe_of (option_map (λ b. type_view b.value) c.in-Fn.ret))) c.add_return.result one c.add_return.ensures)

pub add_path-add_types-requires : goal.add_path-add_types-requires
add_path-add_types-requires t c = (next_rank t _ 1 0 c.decreases, tt)

pub add_type-add_types-requires : goal.add_type-add_types-requires
add_type-add_types-requires t c = (under_three t _ _ 1 1 refl (in_tuple c.args.written.now _ c.deref.result.now c.in-Tuple.is c.deref.ensures.value) c.decreases, tt)

pub add_type-add_type-requires : goal.add_type-add_type-requires
add_type-add_type-requires t c = (under_three t _ _ 0 2 refl (in_slice c.args.written.now _ c.deref-in-Slice.result.now c.in-Slice.is c.deref-in-Slice.ensures) c.decreases, tt)

pub add_type-add_path-requires : goal.add_type-add_path-requires
add_type-add_path-requires t c = (under_three t _ _ 2 0 refl (in_nominal c.args.written.now _ _ c.deref-in-Nominal.result.now c.in-Nominal.is c.deref-in-Nominal.ensures.value) c.decreases, tt)

pub add_type-add_type-requires-in-Ref : goal.add_type-add_type-requires-in-Ref
add_type-add_type-requires-in-Ref t c = (under_three t _ _ 0 2 refl (in_reference c.args.written.now _ _ _ c.deref-in-Ref.result.now c.in-Ref.is c.deref-in-Ref.ensures) c.decreases, tt)

pub add_type-add_types-requires-in-TraitObject : goal.add_type-add_types-requires-in-TraitObject
add_type-add_types-requires-in-TraitObject t c = (under_three t _ _ 1 1 refl (in_object c.args.written.now _ _ c.deref-in-TraitObject.result.now c.in-TraitObject.is c.deref-in-TraitObject.ensures.value) c.decreases, tt)

pub add_type-add_types-requires-in-Fn : goal.add_type-add_types-requires-in-Fn
add_type-add_types-requires-in-Fn t c = (under_three t _ _ 1 1 refl (in_parameters c.args.written.now _ _ _ _ c.deref-in-Fn.result.now c.in-Fn.is c.deref-in-Fn.ensures.value) c.decreases, tt)

pub add_types-add_type-requires : goal.add_types-add_type-requires
add_types-add_type-requires t c = (of_three t _ _ 0 0 (in_row _ _ _ c.loop-inner-test.true c.inner-item.is) c.decreases, tt)

pub add_types-loop-inner-init : goal.add_types-loop-inner-init
add_types-loop-inner-init t c = refl

pub add_types-loop-inner-smaller : goal.add_types-loop-inner-smaller
add_types-loop-inner-smaller t c = falls _ _ c.loop-inner-test.true

pub add_type-returns-in_err-add_types-in-Fn : goal.add_type-returns-in_err-add_types-in-Fn
add_type-returns-in_err-add_types-in-Fn t c = IfOk-from_err _ _ c.from_residual.ensures.0

pub add_types-returns-in_err-add_type : goal.add_types-returns-in_err-add_type
add_types-returns-in_err-add_type t c = IfOk-from_err _ _ c.from_residual.ensures.0

pub add_type-returns-in-Tuple : goal.add_type-returns-in-Tuple
add_type-returns-in-Tuple t c = needs_as _ _ _ _ _ _ _ (tuple_seen _ _ _ c.in-Tuple.is c.deref.ensures.value) c.add_types.ensures

pub add_type-returns-in-Slice : goal.add_type-returns-in-Slice
add_type-returns-in-Slice t c = needs_as _ _ _ _ _ _ _ (sym (view_slice _ _ _ c.in-Slice.is c.deref-in-Slice.ensures)) c.add_type.ensures

pub add_type-returns-in-Nominal : goal.add_type-returns-in-Nominal
add_type-returns-in-Nominal t c = needs_as _ _ _ _ _ _ _ (nominal_seen _ _ _ _ c.in-Nominal.is c.deref-in-Nominal.ensures.value) c.add_path.ensures

pub add_type-returns-in-Ref : goal.add_type-returns-in-Ref
add_type-returns-in-Ref t c = needs_as _ _ _ _ _ _ _ (sym (view_reference _ _ _ _ _ c.in-Ref.is c.deref-in-Ref.ensures)) c.add_type-in-Ref.ensures

pub add_type-returns-in-TraitObject : goal.add_type-returns-in-TraitObject
add_type-returns-in-TraitObject t c = needs_as _ _ _ _ _ _ _ (sym (view_object _ _ _ _ c.in-TraitObject.is c.deref-in-TraitObject.ensures.value)) c.add_types-in-TraitObject.ensures

pub add_type-returns-in-OfSymbol : goal.add_type-returns-in-OfSymbol
add_type-returns-in-OfSymbol t c = needs_as _ _ _ _ _ _ _ (symbol_is _ _ c.in-OfSymbol.is) c.add_kind.ensures
