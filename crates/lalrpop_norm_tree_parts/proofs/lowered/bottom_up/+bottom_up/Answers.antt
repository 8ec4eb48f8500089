use Rattle.std.proofs.Common.{Ok, Err, map, option_map, of_calls, arith, refl, ap, inl, inr}
use Rattle.std.proofs.lemmas.List.{at_drop_all}
use borrow.Author.Count.{falls}
use Rattle.lalrpop_norm_tree_parts.specs.BottomUp.{inside_type, all_inside, return_inside, bottom_up, made, ◌▸◌, answered_as, CalledAtRepr}
use Rattle.lalrpop_norm_tree_parts.specs.Reprs.{repr_view, reprs_view, applied_view, maybe_repr_of, no_reprs, reference}
use Rattle.lalrpop_norm_tree_parts.proofs.BottomUpLemmas.{nominal_walked, slice_ended, slice_walked, as_err, as_wanting, then_walked, inside_wanting, all_wanting, followed_by_none, left_ended, left_wanting, left_kept}
use Rattle.lalrpop_norm_tree_parts.proofs.TypeWalks.{tuple_ended, tuple_walked, nominal_ended, nominal_held, object_ended, object_held, referent_walked, function_ended, function_ended_last, function_walked, associated_walked, lifetime_walked, reference_made, return_ended, return_walked, applied_ended}
use Rattle.lalrpop_norm_tree_parts.proofs.lowered.bottom_up.+bottom_up.Goals as goal

pub walk-returns-in_err-walked : goal.walk-returns-in_err-walked
walk-returns-in_err-walked g t c = record {
  again = c.walk_parts.ensures.again;
  walked = as_err repr_view (λ a. bottom_up (CalledAtRepr g.F.FnMut) (g.E.From.from_gives record {}) (repr_view c.args.ty.now) c.args.f.now a c.walk_parts.new.f) _ _ c.from_residual.ensures.1 (inl c.in_err-walked.ensures.walked);
}

pub walk-returns : goal.walk-returns
walk-returns g t c = record {
  again = search of_calls;
  walked = then_walked (inside_type (CalledAtRepr g.F.FnMut) (g.E.From.from_gives record {}) (repr_view c.args.ty.now)) (CalledAtRepr g.F.FnMut) c.args.f.now c.walk_parts.new.f c.f.new.self (repr_view c.in_ok-walked.walked) (answered_as repr_view c.f.result)
      c.in_ok-walked.ensures.walked record { shown = c.in_ok-walked.walked; shows = refl; answer = c.f.result; is_seen = refl; called = c.f.ensures };
}

pub walk_all-returns-in_err-walk : goal.walk_all-returns-in_err-walk
walk_all-returns-in_err-walk g t c = record {
  again = c.walk.ensures.again;
  walked = rw (← c.deref-ty-items.ensures.value)
      (as_err (λ ts. reprs_view ts.items) (λ a. all_inside (CalledAtRepr g.F.FnMut) (g.E.From.from_gives record {}) (reprs_view c.deref-ty-items.result.now) c.args.f.now a c.walk.new.f) _ _ c.from_residual.ensures.1
      (c.loop-ty.invariant.1 (Err c.in_err-walk.field-0.0) c.walk.new.f
      (left_ended (g.E.From.from_gives record {}) (CalledAtRepr g.F.FnMut) repr_view c.deref-ty-items.result.now c.loop-ty.ty-index c.ty-item.result c.loop-ty-test.true c.loop-ty.f c.walk.new.f c.in_err-walk.field-0.0 (rw (← c.ty-item.is) c.in_err-walk.ensures.walked))));
}

pub walk_all-returns-in_err-add : goal.walk_all-returns-in_err-add
walk_all-returns-in_err-add g t c = record {
  again = c.walk.ensures.again;
  walked = rw (← c.deref-ty-items.ensures.value)
      (as_wanting (g.E.From.from_gives record {}) (λ ts. reprs_view ts.items) (λ a. all_inside (CalledAtRepr g.F.FnMut) (g.E.From.from_gives record {}) (reprs_view c.deref-ty-items.result.now) c.args.f.now a c.walk.new.f) _ c.from_residual-in_err-add.ensures.1
      (λ e m. c.loop-ty.invariant.1 (Err e) c.walk.new.f
      (left_wanting (g.E.From.from_gives record {}) (CalledAtRepr g.F.FnMut) repr_view c.deref-ty-items.result.now c.loop-ty.ty-index c.ty-item.result c.loop-ty-test.true c.loop-ty.f c.walk.new.f (repr_view c.in_ok-walk.field-0) e (rw (← c.ty-item.is) c.in_ok-walk.ensures.walked) m)));
}

pub walk_all-loop-ty-preserved : goal.walk_all-loop-ty-preserved
walk_all-loop-ty-preserved g t c =
    rw (c.in_ok-add.ensures) (
      c.walk.ensures.again,
      left_kept (g.E.From.from_gives record {}) (CalledAtRepr g.F.FnMut) repr_view c.deref-ty-items.result.now c.loop-ty.ty-index c.ty-item.result c.loop-ty-test.true repr_view c.loop-ty.walked.items c.in_ok-walk.field-0
          (all_inside (CalledAtRepr g.F.FnMut) (g.E.From.from_gives record {}) (reprs_view c.deref-ty-items.result.now)) c.args.f.now c.loop-ty.f c.walk.new.f (rw (← c.ty-item.is) c.in_ok-walk.ensures.walked) c.loop-ty.invariant.1,
    )

pub walk_all-loop-ty-smaller : goal.walk_all-loop-ty-smaller
walk_all-loop-ty-smaller g t c = falls _ _ c.loop-ty-test.true

pub walk_all-returns : goal.walk_all-returns
walk_all-returns g t c = record {
  again = c.loop-ty.invariant.0;
  walked = rw (← c.deref-ty-items.ensures.value, ← followed_by_none (map repr_view c.loop-ty.walked.items))
      (c.loop-ty.invariant.1 (Ok no_reprs) c.loop-ty.f (rw (at_drop_all (λ ts. reprs_view ts) c.deref-ty-items.result.now c.loop-ty.ty-index (omega arith)) (refl, refl)));
}

pub walk_boxed-returns-in_err-walked : goal.walk_boxed-returns-in_err-walked
walk_boxed-returns-in_err-walked g t c = record {
  again = c.walk.ensures.again;
  walked = as_err (λ b. repr_view b.value) (λ a. (bottom_up (CalledAtRepr g.F.FnMut) (g.E.From.from_gives record {}) (repr_view c.args.ty.now) ▸ made (g.E.From.from_gives record {})) c.args.f.now a c.walk.new.f) _ _ c.from_residual.ensures.1 (inl c.in_err-walked.ensures.walked);
}

pub walk_boxed-returns-in_err-boxed : goal.walk_boxed-returns-in_err-boxed
walk_boxed-returns-in_err-boxed g t c = record {
  again = c.walk.ensures.again;
  walked = as_wanting (g.E.From.from_gives record {}) (λ b. repr_view b.value) (λ a. (bottom_up (CalledAtRepr g.F.FnMut) (g.E.From.from_gives record {}) (repr_view c.args.ty.now) ▸ made (g.E.From.from_gives record {})) c.args.f.now a c.walk.new.f) _ c.from_residual-in_err-boxed.ensures.1
      (λ e m. inr (repr_view c.in_ok-walked.walked, c.walk.new.f, c.in_ok-walked.ensures.walked, (m, refl)));
}

pub walk_boxed-returns : goal.walk_boxed-returns
walk_boxed-returns g t c = record {
  again = c.walk.ensures.again;
  walked = (repr_view c.in_ok-walked.walked, c.walk.new.f, c.in_ok-walked.ensures.walked, (ap repr_view c.in_ok-boxed.ensures, refl));
}

pub walk_nominal-returns-in_err-path : goal.walk_nominal-returns-in_err-path
walk_nominal-returns-in_err-path g t c = record {
  again = c.requires;
  walked = as_wanting (g.E.From.from_gives record {}) applied_view (λ a. (all_inside (CalledAtRepr g.F.FnMut) (g.E.From.from_gives record {}) (applied_view c.args.nominal.now).1 ▸ λ us. made (g.E.From.from_gives record {}) ((applied_view c.args.nominal.now).0, us)) c.args.f.now a c.args.f.now) _ c.from_residual.ensures.1
      (λ e m. inl (all_wanting (g.E.From.from_gives record {}) (CalledAtRepr g.F.FnMut) (applied_view c.args.nominal.now).1 c.args.f.now e m));
}

pub walk_nominal-returns-in_err-types : goal.walk_nominal-returns-in_err-types
walk_nominal-returns-in_err-types g t c = record {
  again = c.walk_all.ensures.again;
  walked = as_err applied_view (λ a. (all_inside (CalledAtRepr g.F.FnMut) (g.E.From.from_gives record {}) (applied_view c.args.nominal.now).1 ▸ λ us. made (g.E.From.from_gives record {}) ((applied_view c.args.nominal.now).0, us)) c.args.f.now a c.walk_all.new.f) _ _ c.from_residual-in_err-types.ensures.1
      (applied_ended (g.E.From.from_gives record {}) (CalledAtRepr g.F.FnMut) c.args.f.now c.walk_all.new.f c.args.nominal.now c.in_err-types.field-0.0 c.in_err-types.ensures.walked);
}

pub walk_nominal-returns : goal.walk_nominal-returns
walk_nominal-returns g t c = record {
  again = c.walk_all.ensures.again;
  walked = nominal_walked (g.E.From.from_gives record {}) (CalledAtRepr g.F.FnMut) c.args.nominal.now c.in_ok-path.path c.in_ok-types.types c.args.f.now c.walk_all.new.f c.in_ok-path.ensures c.in_ok-types.ensures.walked;
}

pub walk_reference-returns-in_err-referent : goal.walk_reference-returns-in_err-referent
walk_reference-returns-in_err-referent g t c = record {
  again = c.walk_boxed.ensures.again;
  walked = as_err repr_view (λ a. inside_type (CalledAtRepr g.F.FnMut) (g.E.From.from_gives record {}) (reference c.args.lifetime.now c.args.mutable (repr_view c.args.referent.now)) c.args.f.now a c.walk_boxed.new.f) _ _ c.from_residual.ensures.1 c.in_err-referent.ensures.walked;
}

pub walk_reference-returns : goal.walk_reference-returns
walk_reference-returns g t c = record {
  again = c.walk_boxed.ensures.again;
  walked = reference_made (g.E.From.from_gives record {}) (CalledAtRepr g.F.FnMut) c.args.f.now c.walk_boxed.new.f c.args.lifetime.now c.maybe_again.result c.args.mutable (repr_view c.args.referent.now) c.in_ok-referent.referent c.maybe_again.ensures c.in_ok-referent.ensures.walked;
}

pub walk_return-returns-in-None : goal.walk_return-returns-in-None
walk_return-returns-in-None g t c = record {
  again = c.requires;
  walked = rw (c.in-None.is) (refl, refl);
}

pub walk_return-returns-in_err-walk_boxed-in-Some : goal.walk_return-returns-in_err-walk_boxed-in-Some
walk_return-returns-in_err-walk_boxed-in-Some g t c = record {
  again = c.walk_boxed.ensures.again;
  walked = as_err (λ r. maybe_repr_of (option_map (λ b. repr_view b.value) r)) (λ a. return_inside (CalledAtRepr g.F.FnMut) (g.E.From.from_gives record {}) (maybe_repr_of (option_map (λ b. repr_view b.value) c.args.ret.now)) c.args.f.now a c.walk_boxed.new.f) _ _ c.from_residual.ensures.1
      (return_ended (g.E.From.from_gives record {}) (CalledAtRepr g.F.FnMut) c.args.f.now c.walk_boxed.new.f c.args.ret.now c.in-Some.inner c.deref.result.now c.in-Some.is c.deref.ensures c.in_err-walk_boxed-in-Some.field-0.0 c.in_err-walk_boxed-in-Some.ensures.walked);
}

pub walk_return-returns-in_ok-walk_boxed-in-Some : goal.walk_return-returns-in_ok-walk_boxed-in-Some
walk_return-returns-in_ok-walk_boxed-in-Some g t c = record {
  again = c.walk_boxed.ensures.again;
  walked = return_walked (g.E.From.from_gives record {}) (CalledAtRepr g.F.FnMut) c.args.f.now c.walk_boxed.new.f c.args.ret.now c.in-Some.inner c.deref.result.now c.in-Some.is c.deref.ensures c.in_ok-walk_boxed-in-Some.field-0 c.in_ok-walk_boxed-in-Some.ensures.walked;
}

pub walk_parts-returns-in_err-walk_all-in-Tuple : goal.walk_parts-returns-in_err-walk_all-in-Tuple
walk_parts-returns-in_err-walk_all-in-Tuple g t c = record {
  again = c.walk_all.ensures.again;
  walked = as_err repr_view (λ a. inside_type (CalledAtRepr g.F.FnMut) (g.E.From.from_gives record {}) (repr_view c.args.ty.now) c.args.f.now a c.walk_all.new.f) _ _ c.from_residual.ensures.1
      (tuple_ended (g.E.From.from_gives record {}) (CalledAtRepr g.F.FnMut) c.args.ty.now c.args.f.now c.walk_all.new.f c.in-Tuple.types c.in-Tuple.is c.in_err-walk_all-in-Tuple.field-0.0 c.in_err-walk_all-in-Tuple.ensures.walked);
}

pub walk_parts-returns-in_ok-walk_all-in-Tuple : goal.walk_parts-returns-in_ok-walk_all-in-Tuple
walk_parts-returns-in_ok-walk_all-in-Tuple g t c = record {
  again = c.walk_all.ensures.again;
  walked = tuple_walked (g.E.From.from_gives record {}) (CalledAtRepr g.F.FnMut) c.args.ty.now c.args.f.now c.walk_all.new.f c.in-Tuple.types c.in_ok-walk_all-in-Tuple.field-0 c.in-Tuple.is c.in_ok-walk_all-in-Tuple.ensures.walked;
}

pub walk_parts-returns-in_err-walk_boxed-in-Slice : goal.walk_parts-returns-in_err-walk_boxed-in-Slice
walk_parts-returns-in_err-walk_boxed-in-Slice g t c = record {
  again = c.walk_boxed.ensures.again;
  walked = as_err repr_view (λ a. inside_type (CalledAtRepr g.F.FnMut) (g.E.From.from_gives record {}) (repr_view c.args.ty.now) c.args.f.now a c.walk_boxed.new.f) _ _ c.from_residual-in_err-walk_boxed-in-Slice.ensures.1
      (slice_ended (g.E.From.from_gives record {}) (CalledAtRepr g.F.FnMut) c.args.ty.now c.deref.result.now c.in-Slice.inner c.args.f.now c.walk_boxed.new.f c.in-Slice.is c.deref.ensures c.in_err-walk_boxed-in-Slice.field-0.0 c.in_err-walk_boxed-in-Slice.ensures.walked);
}

pub walk_parts-returns-in_ok-walk_boxed-in-Slice : goal.walk_parts-returns-in_ok-walk_boxed-in-Slice
walk_parts-returns-in_ok-walk_boxed-in-Slice g t c = record {
  again = c.walk_boxed.ensures.again;
  walked = slice_walked (g.E.From.from_gives record {}) (CalledAtRepr g.F.FnMut) c.args.ty.now c.deref.result.now c.in-Slice.inner c.args.f.now c.walk_boxed.new.f c.in-Slice.is c.deref.ensures c.in_ok-walk_boxed-in-Slice.field-0 c.in_ok-walk_boxed-in-Slice.ensures.walked;
}

pub walk_parts-returns-in_err-walk_nominal-in-Nominal : goal.walk_parts-returns-in_err-walk_nominal-in-Nominal
walk_parts-returns-in_err-walk_nominal-in-Nominal g t c = record {
  again = c.walk_nominal.ensures.again;
  walked = as_err repr_view (λ a. inside_type (CalledAtRepr g.F.FnMut) (g.E.From.from_gives record {}) (repr_view c.args.ty.now) c.args.f.now a c.walk_nominal.new.f) _ _ c.from_residual-in_err-walk_nominal-in-Nominal.ensures.1
      (nominal_ended (g.E.From.from_gives record {}) (CalledAtRepr g.F.FnMut) c.args.ty.now c.args.f.now c.walk_nominal.new.f c.in-Nominal.nominal c.in-Nominal.is c.in_err-walk_nominal-in-Nominal.field-0.0 c.in_err-walk_nominal-in-Nominal.ensures.walked);
}

pub walk_parts-returns-in_ok-walk_nominal-in-Nominal : goal.walk_parts-returns-in_ok-walk_nominal-in-Nominal
walk_parts-returns-in_ok-walk_nominal-in-Nominal g t c = record {
  again = c.walk_nominal.ensures.again;
  walked = nominal_held (g.E.From.from_gives record {}) (CalledAtRepr g.F.FnMut) c.args.ty.now c.args.f.now c.walk_nominal.new.f c.in-Nominal.nominal c.in-Nominal.is c.in_ok-walk_nominal-in-Nominal.field-0 c.in_ok-walk_nominal-in-Nominal.ensures.walked;
}

pub walk_parts-returns-in-Associated : goal.walk_parts-returns-in-Associated
walk_parts-returns-in-Associated g t c = record {
  again = c.requires;
  walked = associated_walked (g.E.From.from_gives record {}) (CalledAtRepr g.F.FnMut) c.args.ty.now c.args.f.now c.in-Associated.type_parameter c.in-Associated.id c.again.result c.again-in-Associated.result c.in-Associated.is c.again.ensures c.again-in-Associated.ensures;
}

pub walk_parts-returns-in-Lifetime : goal.walk_parts-returns-in-Lifetime
walk_parts-returns-in-Lifetime g t c = record {
  again = c.requires;
  walked = lifetime_walked (g.E.From.from_gives record {}) (CalledAtRepr g.F.FnMut) c.args.ty.now c.args.f.now c.in-Lifetime.lifetime c.again-in-Lifetime.result c.in-Lifetime.is c.again-in-Lifetime.ensures;
}

pub walk_parts-returns-in-Ref : goal.walk_parts-returns-in-Ref
walk_parts-returns-in-Ref g t c = record {
  again = c.walk_reference.ensures.again;
  walked = referent_walked (g.E.From.from_gives record {}) (CalledAtRepr g.F.FnMut) c.args.ty.now c.args.f.now c.walk_reference.new.f c.in-Ref.lifetime c.in-Ref.mutable c.in-Ref.referent c.deref-in-Ref.result.now _ c.in-Ref.is c.deref-in-Ref.ensures c.walk_reference.ensures.walked;
}

pub walk_parts-returns-in_err-walk_nominal-in-TraitObject : goal.walk_parts-returns-in_err-walk_nominal-in-TraitObject
walk_parts-returns-in_err-walk_nominal-in-TraitObject g t c = record {
  again = c.walk_nominal-in-TraitObject.ensures.again;
  walked = as_err repr_view (λ a. inside_type (CalledAtRepr g.F.FnMut) (g.E.From.from_gives record {}) (repr_view c.args.ty.now) c.args.f.now a c.walk_nominal-in-TraitObject.new.f) _ _ c.from_residual-in_err-walk_nominal-in-TraitObject.ensures.1
      (object_ended (g.E.From.from_gives record {}) (CalledAtRepr g.F.FnMut) c.args.ty.now c.args.f.now c.walk_nominal-in-TraitObject.new.f c.in-TraitObject.nominal c.in-TraitObject.is c.in_err-walk_nominal-in-TraitObject.field-0.0 c.in_err-walk_nominal-in-TraitObject.ensures.walked);
}

pub walk_parts-returns-in_ok-walk_nominal-in-TraitObject : goal.walk_parts-returns-in_ok-walk_nominal-in-TraitObject
walk_parts-returns-in_ok-walk_nominal-in-TraitObject g t c = record {
  again = c.walk_nominal-in-TraitObject.ensures.again;
  walked = object_held (g.E.From.from_gives record {}) (CalledAtRepr g.F.FnMut) c.args.ty.now c.args.f.now c.walk_nominal-in-TraitObject.new.f c.in-TraitObject.nominal c.in-TraitObject.is c.in_ok-walk_nominal-in-TraitObject.field-0 c.in_ok-walk_nominal-in-TraitObject.ensures.walked;
}

pub walk_parts-returns-in_err-forall-in-Fn : goal.walk_parts-returns-in_err-forall-in-Fn
walk_parts-returns-in_err-forall-in-Fn g t c = record {
  again = c.requires;
  walked = as_wanting (g.E.From.from_gives record {}) repr_view (λ a. inside_type (CalledAtRepr g.F.FnMut) (g.E.From.from_gives record {}) (repr_view c.args.ty.now) c.args.f.now a c.args.f.now) _ c.from_residual-in_err-forall-in-Fn.ensures.1
      (λ e m. inside_wanting (g.E.From.from_gives record {}) (CalledAtRepr g.F.FnMut) (repr_view c.args.ty.now) c.args.f.now e m);
}

pub walk_parts-returns-in_err-parameters-in-Fn : goal.walk_parts-returns-in_err-parameters-in-Fn
walk_parts-returns-in_err-parameters-in-Fn g t c = record {
  again = c.walk_all-in-Fn.ensures.again;
  walked = as_err repr_view (λ a. inside_type (CalledAtRepr g.F.FnMut) (g.E.From.from_gives record {}) (repr_view c.args.ty.now) c.args.f.now a c.walk_all-in-Fn.new.f) _ _ c.from_residual-in_err-parameters-in-Fn.ensures.1
      (function_ended (g.E.From.from_gives record {}) (CalledAtRepr g.F.FnMut) c.args.ty.now c.args.f.now c.walk_all-in-Fn.new.f c.in-Fn.forall c.in-Fn.path c.in-Fn.parameters c.in-Fn.ret c.in-Fn.is c.in_err-parameters-in-Fn.field-0.0 c.in_err-parameters-in-Fn.ensures.walked);
}

pub walk_parts-returns-in_err-ret-in-Fn : goal.walk_parts-returns-in_err-ret-in-Fn
walk_parts-returns-in_err-ret-in-Fn g t c = record {
  again = c.walk_return.ensures.again;
  walked = as_err repr_view (λ a. inside_type (CalledAtRepr g.F.FnMut) (g.E.From.from_gives record {}) (repr_view c.args.ty.now) c.args.f.now a c.walk_return.new.f) _ _ c.from_residual-in_err-ret-in-Fn.ensures.1
      (function_ended_last (g.E.From.from_gives record {}) (CalledAtRepr g.F.FnMut) c.args.ty.now c.args.f.now c.walk_return.new.f c.in-Fn.forall c.in-Fn.path c.in-Fn.parameters c.in-Fn.ret c.in-Fn.is
      c.in_ok-parameters-in-Fn.parameters c.walk_all-in-Fn.new.f c.in_ok-parameters-in-Fn.ensures.walked c.in_err-ret-in-Fn.field-0.0 c.in_err-ret-in-Fn.ensures.walked);
}

pub walk_parts-returns-in_ok-ret-in-Fn : goal.walk_parts-returns-in_ok-ret-in-Fn
walk_parts-returns-in_ok-ret-in-Fn g t c = record {
  again = c.walk_return.ensures.again;
  walked = function_walked (g.E.From.from_gives record {}) (CalledAtRepr g.F.FnMut) c.args.ty.now c.args.f.now c.walk_return.new.f c.in-Fn.forall c.in-Fn.path c.in-Fn.parameters c.in-Fn.ret c.in-Fn.is
      c.in_ok-parameters-in-Fn.parameters c.walk_all-in-Fn.new.f c.in_ok-parameters-in-Fn.ensures.walked c.in_ok-forall-in-Fn.forall c.in_ok-forall-in-Fn.path c.in_ok-ret-in-Fn.ret c.in_ok-forall-in-Fn.ensures.0 c.in_ok-forall-in-Fn.ensures.1 c.in_ok-ret-in-Fn.ensures.walked;
}
