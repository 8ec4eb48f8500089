use Rattle.std.proofs.Common.{refl}
use Rattle.lalrpop_norm_tyinfer_steps.proofs.StopLemmas.{if_ok, taken_fit, left_stops, gives}
use Rattle.lalrpop_norm_tyinfer_steps.proofs.stops.Stops.give_type.Goals as goal

pub move_on-requires-clause-stops : goal.move_on-requires-clause-stops
move_on-requires-clause-stops c =
    left_stops c.args.self.now _ c.take-stopped.new.self c.args.number c.take-stopped.result.items c.requires.stops refl refl c.take-stopped.ensures

pub move_on-requires-clause-fits : goal.move_on-requires-clause-fits
move_on-requires-clause-fits c =
    rw c.deref.ensures.value
    (taken_fit c.args.self.now _ c.take-stopped.new.self c.args.number c.take-stopped.result.items c.requires.stops refl refl c.take-stopped.ensures)

pub returns : goal.returns
returns c =
    let moves = rw c.deref.ensures.value at c.move_on.ensures in
    if_ok c.move_on.result moves
    (λ ready m. gives c.args.self.now _ c.take-stopped.new.self c.move_on.new.self c.args.number c.take-stopped.result.items ready.items c.requires.stops c.requires.within refl refl c.take-stopped.ensures m)
