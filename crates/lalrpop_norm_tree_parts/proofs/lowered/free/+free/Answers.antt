use Rattle.std.proofs.Common.{refl, option_map}
use Rattle.std.proofs.lemmas.Result.{IfOk-from_err}
use borrow.Author.Count.{falls}
use Rattle.lalrpop_norm_tree_parts.specs.FreeVariables.{met_in_type, met_in_all, met_in_path, met_in_return}
use Rattle.lalrpop_norm_tree_parts.specs.Reprs.{repr_view, reprs_view, maybe_repr_of}
use Rattle.lalrpop_norm_tree_parts.specs.Paths.{path_view}
use Rattle.lalrpop_norm_tree_parts.proofs.ReprSeen.{slice_seen, associated_seen, lifetime_seen, reference_seen, object_seen, function_seen, applied_is}
use Rattle.lalrpop_norm_tree_parts.proofs.ReprViews.{view_tuple, view_nominal}
use Rattle.lalrpop_norm_tree_parts.proofs.FreeLemmas.{met_more, met_then, met_in_function}
use Rattle.lalrpop_norm_tree_parts.proofs.lowered.free.+free.Goals as goal

pub add_free_of_all-loop-ty-preserved : goal.add_free_of_all-loop-ty-preserved
add_free_of_all-loop-ty-preserved t c =
    met_more (λ x. met_in_type (repr_view x)) (λ xs. met_in_all (reprs_view xs)) (λ x xs. refl) c.args.listed.now c.deref-ty-items.result.now c.loop-ty.ty-index c.ty-item.result c.loop-ty.all.items c.add_free.new.all.items _ c.loop-ty-test.true
    c.loop-ty.invariant (rw (← c.ty-item.is) c.in_ok-add_free.ensures)

pub add_free-returns-in_ok-add_free_of_all-in-Fn : goal.add_free-returns-in_ok-add_free_of_all-in-Fn
add_free-returns-in_ok-add_free_of_all-in-Fn t c =
    rw (c.in-Fn.is, function_seen c.in-Fn.forall c.in-Fn.path c.in-Fn.parameters c.in-Fn.ret)
    (met_in_function c.in-Fn.forall.items c.args.listed.now
    (met_in_path (path_view c.in-Fn.path)) (met_in_all (reprs_view c.in-Fn.parameters.items)) (met_in_return (maybe_repr_of (option_map (λ b. repr_view b.value) c.in-Fn.ret)))
    c.args.all.now.items c.add_path.new.all.items c.add_free_of_all-in-Fn.new.all.items c.add_free_of_return.new.all.items c.in_ok-unbound-in-Fn.unbound.items c.add_free_of_return.result c.in_ok-unbound-in-Fn.ensures
    (rw (← c.deref-in-Fn.ensures.value) c.in_ok-add_path-in-Fn.ensures)
    (rw (← c.deref-in-Fn-2.ensures.value) c.in_ok-add_free_of_all-in-Fn.ensures)
    (rw (← c.deref-in-Fn-3.ensures.value) c.add_free_of_return.ensures))

pub add_free-returns-in-Tuple : goal.add_free-returns-in-Tuple
add_free-returns-in-Tuple t c = rw (c.in-Tuple.is, view_tuple c.in-Tuple.types) c.add_free_of_all.ensures

pub add_free-returns-in-Slice : goal.add_free-returns-in-Slice
add_free-returns-in-Slice t c = rw (c.in-Slice.is, slice_seen c.in-Slice.inner, ← c.deref.ensures) c.add_free.ensures

pub add_free-returns-in-Nominal : goal.add_free-returns-in-Nominal
add_free-returns-in-Nominal t c = rw (c.in-Nominal.is, view_nominal c.in-Nominal.nominal) c.add_free_of_nominal.ensures

pub add_free-returns-in-Associated : goal.add_free-returns-in-Associated
add_free-returns-in-Associated t c = rw (c.in-Associated.is, associated_seen c.in-Associated.type_parameter _, ← c.again.ensures) c.add_listed.ensures

pub add_free-returns-in-Lifetime : goal.add_free-returns-in-Lifetime
add_free-returns-in-Lifetime t c = rw (c.in-Lifetime.is, lifetime_seen c.in-Lifetime.lifetime) c.add_lifetime.ensures

pub add_free-returns-in_ok-add_maybe_lifetime-in-Ref : goal.add_free-returns-in_ok-add_maybe_lifetime-in-Ref
add_free-returns-in_ok-add_maybe_lifetime-in-Ref t c =
    rw (c.in-Ref.is, reference_seen c.in-Ref.lifetime _ c.in-Ref.referent, ← c.deref-in-Ref.ensures)
    (met_then c.args.listed.now _ _ _ _ _ _ c.in_ok-add_maybe_lifetime-in-Ref.ensures c.add_free-in-Ref.ensures)

pub add_free-returns-in-TraitObject : goal.add_free-returns-in-TraitObject
add_free-returns-in-TraitObject t c = rw (c.in-TraitObject.is, object_seen c.in-TraitObject.nominal) c.add_free_of_nominal-in-TraitObject.ensures

pub add_free-returns-in_err-add_maybe_lifetime-in-Ref : goal.add_free-returns-in_err-add_maybe_lifetime-in-Ref
add_free-returns-in_err-add_maybe_lifetime-in-Ref t c = IfOk-from_err _ _ c.from_residual.ensures.0

pub add_free-returns-in_err-unbound-in-Fn : goal.add_free-returns-in_err-unbound-in-Fn
add_free-returns-in_err-unbound-in-Fn t c = IfOk-from_err _ _ c.from_residual-in_err-unbound-in-Fn.ensures.0

pub add_free-returns-in_err-add_path-in-Fn : goal.add_free-returns-in_err-add_path-in-Fn
add_free-returns-in_err-add_path-in-Fn t c = IfOk-from_err _ _ c.from_residual-in_err-add_path-in-Fn.ensures.0

pub add_free-returns-in_err-add_free_of_all-in-Fn : goal.add_free-returns-in_err-add_free_of_all-in-Fn
add_free-returns-in_err-add_free_of_all-in-Fn t c = IfOk-from_err _ _ c.from_residual-in_err-add_free_of_all-in-Fn.ensures.0

pub add_free_of_all-returns-in_err-add_free : goal.add_free_of_all-returns-in_err-add_free
add_free_of_all-returns-in_err-add_free t c = IfOk-from_err _ _ c.from_residual.ensures.0

pub add_free_of_all-loop-ty-smaller : goal.add_free_of_all-loop-ty-smaller
add_free_of_all-loop-ty-smaller t c = falls _ _ c.loop-ty-test.true

pub add_free_of_nominal-returns : goal.add_free_of_nominal-returns
add_free_of_nominal-returns t c = rw (applied_is c.args.nominal.now) (met_then c.args.listed.now _ _ _ _ _ _ c.in_ok-add_path.ensures c.add_free_of_all.ensures)

pub add_free_of_nominal-returns-in_err-add_path : goal.add_free_of_nominal-returns-in_err-add_path
add_free_of_nominal-returns-in_err-add_path t c = IfOk-from_err _ _ c.from_residual.ensures.0

pub add_free_of_return-returns-in-None : goal.add_free_of_return-returns-in-None
add_free_of_return-returns-in-None t c = rw (c.in-None.is) refl

pub add_free_of_return-returns-in-Some : goal.add_free_of_return-returns-in-Some
add_free_of_return-returns-in-Some t c = rw (c.in-Some.is, ← c.deref.ensures) c.add_free.ensures
