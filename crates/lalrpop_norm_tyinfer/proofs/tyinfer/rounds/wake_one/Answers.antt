use Rattle.lalrpop_norm_tyinfer_steps.proofs.StopLemmas.{if_ok}
use Rattle.lalrpop_norm_tyinfer.proofs.RoundStarts.{woken_now, woken_next}
use Rattle.lalrpop_norm_tyinfer.proofs.tyinfer.rounds.wake_one.Goals as goal

pub returns-then-place-other : goal.returns-then-place-other
returns-then-place-other c =
    if_ok c.add.result c.add.ensures (λ _ added. woken_now c.args.other c.args.place c.args.now.now c.add.new.self c.args.next.now c.if-place-other.true added)

pub returns : goal.returns
returns c =
    if_ok c.add-2.result c.add-2.ensures (λ _ added. woken_next c.args.other c.args.place c.args.now.now c.args.next.now c.add-2.new.self c.if-place-other.false added)
