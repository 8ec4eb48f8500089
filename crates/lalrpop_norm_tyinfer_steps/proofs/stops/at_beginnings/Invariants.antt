use Rattle.std.proofs.Common.{take}
use Rattle.lalrpop_norm_tyinfer_steps.specs.Stops.{AreAtBeginnings}
use Rattle.lalrpop_norm_tyinfer_steps.proofs.stops.at_beginnings.Given as goal

abbrev pub invariant-loop-need : goal.invariant-loop-need
invariant-loop-need l = AreAtBeginnings (take l.need-index l.needs) l.stops.items
