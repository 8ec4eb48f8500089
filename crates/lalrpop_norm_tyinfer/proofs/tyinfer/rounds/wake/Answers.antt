use Rattle.lalrpop_norm_tyinfer_steps.proofs.RoundLemmas.{wakes_more}
use Rattle.std.proofs.lemmas.List.{take_more}
use Rattle.lalrpop_norm_tyinfer.proofs.tyinfer.rounds.wake.Goals as goal

pub loop-other-preserved : goal.loop-other-preserved
loop-other-preserved c =
    rw (take_more c.args.places.now c.loop-other.other-index 0 c.loop-other-test.true)
    (wakes_more _ _ _ _ _ _ _ _ _ c.loop-other.invariant c.in_ok-wake_one.ensures)
