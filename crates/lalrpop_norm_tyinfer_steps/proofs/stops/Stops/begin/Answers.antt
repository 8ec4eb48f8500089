use Rattle.lalrpop_norm_tyinfer_steps.proofs.StopLemmas.{if_ok, begins}
use Rattle.lalrpop_norm_tyinfer_steps.proofs.stops.Stops.begin.Goals as goal

pub move_on-requires-clause-stops : goal.move_on-requires-clause-stops
move_on-requires-clause-stops c = c.requires.untyped.stops

pub move_on-requires-clause-fits : goal.move_on-requires-clause-fits
move_on-requires-clause-fits c = rw c.deref.ensures.value (λ e h. c.requires.fits e.need.now (c.in_ok-stops.ensures.only e h))

pub returns : goal.returns
returns c =
    let moves = rw c.deref.ensures.value at c.move_on.ensures in
    if_ok c.move_on.result moves (λ ready m. begins c.args.self.now c.move_on.new.self c.args.needs.now c.in_ok-stops.stops.items ready.items c.requires.untyped c.in_ok-stops.ensures m)
