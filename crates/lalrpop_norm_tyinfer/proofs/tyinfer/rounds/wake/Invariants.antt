use Rattle.std.proofs.Common.{take}
use Rattle.lalrpop_norm_tyinfer_steps.specs.Waiting.{Wakes}
use Rattle.lalrpop_norm_tyinfer.proofs.tyinfer.rounds.wake.Given as goal

abbrev pub invariant-loop-other : goal.invariant-loop-other
invariant-loop-other l = Wakes (take l.other-index l.places) l.place l.initial.now l.now l.initial.next l.next
