use Rattle.std.proofs.Common.{◌≡◌, Some, slice_get, length, refl, ap, ◌∙◌, arith}
use Rattle.std.proofs.lemmas.Option.{slice_get_read}
use Rattle.lalrpop_norm_model.proofs.LevelLemmas.{at_in}
use Rattle.lalrpop_norm_tyinfer_steps.proofs.StopLemmas.{put_some, put_none, on_ok}
use Rattle.lalrpop_norm_tyinfer_steps.proofs.stops.Stops.put.Goals as goal

pub put_under-requires : goal.put_under-requires
put_under-requires c =
    let numbers = c.args.need.now.numbers.items in
    let here : slice_get numbers c.args.place ≡ Some (Some c.in-Some.number) = slice_get_read numbers (length numbers) c.args.place c.index.result.now refl c.requires.within c.index.ensures ∙ ap Some c.in-Some.is in
    let low = c.requires.fits.numbers c.in-Some.number (at_in numbers c.args.place (Some c.in-Some.number) here) in
    omega (arith, c.requires.stops.lists)

pub returns-in-Some : goal.returns-in-Some
returns-in-Some c =
    let numbers = c.args.need.now.numbers.items in
    let here : slice_get numbers c.args.place ≡ Some (Some c.in-Some.number) = slice_get_read numbers (length numbers) c.args.place c.index.result.now refl c.requires.within c.index.ensures ∙ ap Some c.in-Some.is in
    on_ok c.put_under.result c.put_under.ensures (λ p. put_some c.args.self.now c.put_under.new.self c.args.need.now c.args.place c.in-Some.number _ c.requires.stops c.requires.fits p refl refl here)

pub returns-in-None : goal.returns-in-None
returns-in-None c =
    let numbers = c.args.need.now.numbers.items in
    put_none c.args.self.now c.args.need.now c.args.place c.requires.stops
    (slice_get_read numbers (length numbers) c.args.place c.index.result.now refl c.requires.within c.index.ensures ∙ ap Some c.in-None.is)
