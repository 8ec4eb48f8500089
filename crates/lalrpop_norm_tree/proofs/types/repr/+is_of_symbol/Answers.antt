use Rattle.std.proofs.Common.{arith, sym, refl, ap, ◌∙◌}
use Rattle.std.proofs.lemmas.List.{take_all}
use Rattle.std.proofs.lemmas.List.Folds.{list_any_at}
use borrow.Author.Count.{falls}
use Rattle.lalrpop_norm_tree.specs.LoweredTypes.{holds_symbol}
use Rattle.lalrpop_norm_tree.specs.Types.{type_view}
use Rattle.lalrpop_norm_tree.proofs.TypeLemmas.{any_of_them}
use Rattle.lalrpop_norm_tree.proofs.TypeViews.{tuple_is, slice_is, nominal_is, reference_is, object_is, lifetime_is, id_is, symbol_is, function_is}
use Rattle.lalrpop_norm_tree.proofs.TypeSizes.{to_tuple, to_slice, to_nominal, to_referent, to_object, to_parameters, to_one}
use Rattle.lalrpop_norm_tree.proofs.types.repr.+is_of_symbol.Goals as goal

pub is_any_of_symbol-returns-then-is_of_symbol : goal.is_any_of_symbol-returns-then-is_of_symbol
is_any_of_symbol-returns-then-is_of_symbol t c =
    sym (any_of_them c.args.types.now ∙ list_any_at (λ t. holds_symbol (type_view t)) c.args.types.now c.loop-inner.inner-index c.inner-item.result c.loop-inner-test.true (cc))

pub is_any_of_symbol-returns : goal.is_any_of_symbol-returns
is_any_of_symbol-returns t c =
    let all = take_all c.loop-inner.inner-index c.args.types.now c.loop-inner-test.false in
    sym (any_of_them c.args.types.now ∙ rw all at c.loop-inner.invariant)

pub is_any_of_symbol-loop-inner-init : goal.is_any_of_symbol-loop-inner-init
is_any_of_symbol-loop-inner-init t c = refl

pub is_any_of_symbol-loop-inner-smaller : goal.is_any_of_symbol-loop-inner-smaller
is_any_of_symbol-loop-inner-smaller t c = falls _ _ c.loop-inner-test.true

pub is_of_symbol-returns-in-Tuple : goal.is_of_symbol-returns-in-Tuple
is_of_symbol-returns-in-Tuple t c = rw (tuple_is c.args.written.now c.in-Tuple.types c.in-Tuple.is, ← c.deref.ensures.value) c.is_any_of_symbol.ensures

pub is_of_symbol-returns-in-Slice : goal.is_of_symbol-returns-in-Slice
is_of_symbol-returns-in-Slice t c = rw (slice_is c.args.written.now c.in-Slice.inner c.in-Slice.is, ← c.deref-in-Slice.ensures) c.is_of_symbol.ensures

pub is_of_symbol-returns-in-Nominal : goal.is_of_symbol-returns-in-Nominal
is_of_symbol-returns-in-Nominal t c = rw (nominal_is c.args.written.now _ c.in-Nominal.types c.in-Nominal.is, ← c.deref-in-Nominal.ensures.value) c.is_any_of_symbol-in-Nominal.ensures

pub is_of_symbol-returns-in-Ref : goal.is_of_symbol-returns-in-Ref
is_of_symbol-returns-in-Ref t c = rw (reference_is c.args.written.now _ _ c.in-Ref.referent c.in-Ref.is, ← c.deref-in-Ref.ensures) c.is_of_symbol-in-Ref.ensures

pub is_of_symbol-returns-in-TraitObject : goal.is_of_symbol-returns-in-TraitObject
is_of_symbol-returns-in-TraitObject t c = rw (object_is c.args.written.now _ c.in-TraitObject.types c.in-TraitObject.is, ← c.deref-in-TraitObject.ensures.value) c.is_any_of_symbol-in-TraitObject.ensures

pub is_of_symbol-returns-in-Lifetime : goal.is_of_symbol-returns-in-Lifetime
is_of_symbol-returns-in-Lifetime t c = rw (lifetime_is c.args.written.now _ c.in-Lifetime.is) refl

pub is_of_symbol-returns-in-Id : goal.is_of_symbol-returns-in-Id
is_of_symbol-returns-in-Id t c = rw (id_is c.args.written.now _ c.in-Id.is) refl

pub is_of_symbol-returns-in-OfSymbol : goal.is_of_symbol-returns-in-OfSymbol
is_of_symbol-returns-in-OfSymbol t c = rw (symbol_is c.args.written.now _ c.in-OfSymbol.is) refl

pub is_result_of_symbol-returns-in-None : goal.is_result_of_symbol-returns-in-None
is_result_of_symbol-returns-in-None t c = rw (c.in-None.is) refl

pub is_result_of_symbol-returns-in-Some : goal.is_result_of_symbol-returns-in-Some
is_result_of_symbol-returns-in-Some t c = rw (c.in-Some.is, ← c.deref.ensures) c.is_of_symbol.ensures

pub is_of_symbol-is_any_of_symbol-requires : goal.is_of_symbol-is_any_of_symbol-requires
is_of_symbol-is_any_of_symbol-requires t c = (to_tuple t c.args.written.now c.in-Tuple.types c.deref.result.now c.in-Tuple.is c.deref.ensures.value c.decreases, tt)

pub is_of_symbol-is_any_of_symbol-requires-in-Fn : goal.is_of_symbol-is_any_of_symbol-requires-in-Fn
is_of_symbol-is_any_of_symbol-requires-in-Fn t c = (to_parameters t c.args.written.now _ _ c.in-Fn.parameters _ c.deref-in-Fn.result.now c.in-Fn.is c.deref-in-Fn.ensures.value c.decreases, tt)

pub is_of_symbol-is_any_of_symbol-requires-in-Nominal : goal.is_of_symbol-is_any_of_symbol-requires-in-Nominal
is_of_symbol-is_any_of_symbol-requires-in-Nominal t c = (to_nominal t c.args.written.now _ c.in-Nominal.types c.deref-in-Nominal.result.now c.in-Nominal.is c.deref-in-Nominal.ensures.value c.decreases, tt)

pub is_of_symbol-is_any_of_symbol-requires-in-TraitObject : goal.is_of_symbol-is_any_of_symbol-requires-in-TraitObject
is_of_symbol-is_any_of_symbol-requires-in-TraitObject t c = (to_object t c.args.written.now _ c.in-TraitObject.types c.deref-in-TraitObject.result.now c.in-TraitObject.is c.deref-in-TraitObject.ensures.value c.decreases, tt)

pub is_of_symbol-is_of_symbol-requires : goal.is_of_symbol-is_of_symbol-requires
is_of_symbol-is_of_symbol-requires t c = (to_slice t c.args.written.now c.in-Slice.inner c.deref-in-Slice.result.now c.in-Slice.is c.deref-in-Slice.ensures c.decreases, tt)

pub is_of_symbol-is_of_symbol-requires-in-Ref : goal.is_of_symbol-is_of_symbol-requires-in-Ref
is_of_symbol-is_of_symbol-requires-in-Ref t c = (to_referent t c.args.written.now _ _ c.in-Ref.referent c.deref-in-Ref.result.now c.in-Ref.is c.deref-in-Ref.ensures c.decreases, tt)

pub is_any_of_symbol-is_of_symbol-requires : goal.is_any_of_symbol-is_of_symbol-requires
is_any_of_symbol-is_of_symbol-requires t c = (to_one t c.args.types.now c.loop-inner.inner-index c.inner-item.result c.loop-inner-test.true c.inner-item.is c.decreases, tt)

pub is_of_symbol-returns-then-is_any_of_symbol : goal.is_of_symbol-returns-then-is_any_of_symbol
is_of_symbol-returns-then-is_any_of_symbol t c =
    rw (function_is c.args.written.now _ _ c.in-Fn.parameters _ c.in-Fn.is, ← c.deref-in-Fn.ensures.value, ← c.is_any_of_symbol-in-Fn.ensures, c.if-is_any_of_symbol.true) refl

pub is_of_symbol-returns-else-is_any_of_symbol : goal.is_of_symbol-returns-else-is_any_of_symbol
is_of_symbol-returns-else-is_any_of_symbol t c =
    rw (function_is c.args.written.now _ _ c.in-Fn.parameters _ c.in-Fn.is, ← c.deref-in-Fn.ensures.value, ← c.is_any_of_symbol-in-Fn.ensures, c.if-is_any_of_symbol.false) c.is_result_of_symbol.ensures
