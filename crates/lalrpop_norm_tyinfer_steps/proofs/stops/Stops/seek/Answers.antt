use Rattle.std.proofs.lemmas.Option.{slice_get_within}
use Rattle.lalrpop_norm_tyinfer_steps.proofs.StopLemmas.{seeks_stop}
use Rattle.lalrpop_norm_tyinfer_steps.proofs.stops.Stops.seek.Goals as goal

pub first_untyped-requires : goal.first_untyped-requires
first_untyped-requires c = rw c.deref.ensures.value c.requires.fits.numbers

pub put-requires-clause-within : goal.put-requires-clause-within
put-requires-clause-within c =
    let first = rw c.deref.ensures.value at c.in-Some.ensures in
    slice_get_within _ _ _ first.here

pub returns-in_ok-put-in-Some : goal.returns-in_ok-put-in-Some
returns-in_ok-put-in-Some c =
    let first = rw c.deref.ensures.value at c.in-Some.ensures in
    seeks_stop c.args.self.now c.put.new.self c.args.stop c.in-Some.place first c.in_ok-put-in-Some.ensures
