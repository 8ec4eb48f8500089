use Rattle.std.proofs.Common.{refl}
use Rattle.lnorm_streams.proofs.MessageLemmas.{plain_byte, marked_byte, stopped, rest_written, rest_begun}
use Rattle.lnorm_streams.proofs.message.write_message.Goals as goal
use Rattle.lnorm_streams.proofs.message.write_message.Goals.{in-Some+else-not-write_marked, in_default}

pub returns-then-not-write_marked-clause-front : goal.returns-then-not-write_marked-clause-front
returns-then-not-write_marked-clause-front g c =
    stopped _ _ c.args.message.now c.loop-at.from c.loop-at.at c.loop-at.invariant _ c.in-Some.mark.now c.loop-at-test.true c.in-Some.ensures c.write_marked.ensures.front

pub loop-at-preserved : goal.loop-at-preserved
loop-at-preserved g c = elim c.match-mark_of.branch [
  | in-Some+else-not-write_marked w ↦
      rw (w.from-is, w.writer-is)
      (marked_byte _ _ c.args.message.now c.loop-at.from c.loop-at.at c.loop-at.invariant _ w.in-Some.mark.now c.loop-at-test.true w.in-Some.ensures (w.if-not-write_marked.ensures.whole refl))
  | in_default w ↦
      rw (w.from-is, w.writer-is)
      (plain_byte _ _ c.args.message.now c.loop-at.from c.loop-at.at c.loop-at.invariant c.loop-at-test.true w.in_default.ensures)
]

pub returns-clause-front : goal.returns-clause-front
returns-clause-front g c =
    rest_begun _ _ c.args.message.now c.loop-at.from c.loop-at.at c.loop-at.invariant _ c.loop-at-test.false c.write_whole.ensures.front

pub returns-clause-whole : goal.returns-clause-whole
returns-clause-whole g c = λ all.
    rest_written _ _ c.args.message.now c.loop-at.from c.loop-at.at c.loop-at.invariant _ c.loop-at-test.false (c.write_whole.ensures.whole all)
