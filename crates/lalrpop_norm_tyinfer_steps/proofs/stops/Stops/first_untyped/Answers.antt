use Rattle.std.proofs.Common.{◌≡◌, Some, None, slice_get, refl, sym, ap, ◌∙◌}
use Rattle.std.proofs.lemmas.Option.{slice_get-get_or}
use Rattle.lalrpop_norm_model.proofs.LevelLemmas.{at_in}
use Rattle.lalrpop_norm_tyinfer_steps.proofs.stops.Stops.first_untyped.Goals as goal

pub is_typed-requires : goal.is_typed-requires
is_typed-requires c =
    let here : slice_get c.args.numbers.now c.loop-place.place ≡ Some (Some c.in-Some.number) = slice_get-get_or c.args.numbers.now c.loop-place.place None c.loop-place-test.true ∙ ap Some c.in-Some.is in
    c.requires c.in-Some.number (at_in c.args.numbers.now c.loop-place.place (Some c.in-Some.number) here)

pub returns-then-not-is_typed : goal.returns-then-not-is_typed
returns-then-not-is_typed c = record {
  number = Some c.in-Some.number;
  here = slice_get-get_or c.args.numbers.now c.loop-place.place None c.loop-place-test.true ∙ ap Some c.in-Some.is;
  untyped = sym c.is_typed.ensures ∙ c.if-not-is_typed.true;
  low = c.loop-place.auto.place;
  earlier = c.loop-place.invariant;
}

pub returns-in-None : goal.returns-in-None
returns-in-None c = record {
  number = None;
  here = slice_get-get_or c.args.numbers.now c.loop-place.place None c.loop-place-test.true ∙ ap Some c.in-None.is;
  untyped = refl;
  low = c.loop-place.auto.place;
  earlier = c.loop-place.invariant;
}
