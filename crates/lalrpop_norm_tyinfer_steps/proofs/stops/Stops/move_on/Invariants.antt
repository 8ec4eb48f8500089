use Rattle.std.proofs.Common.{take}
use Rattle.lalrpop_norm_tyinfer_steps.specs.Stops.{MovesOn}
use Rattle.lalrpop_norm_tyinfer_steps.proofs.stops.Stops.move_on.Given as goal

abbrev pub invariant-loop-stop : goal.invariant-loop-stop
invariant-loop-stop l = MovesOn l.initial.self l.self (take l.stop-index l.stopped) l.ready.items
