use Rattle.lnorm_streams.proofs.MessageLemmas.{IsWrittenTo}
use Rattle.lnorm_streams.proofs.message.write_message.Given as goal

abbrev pub invariant-loop-at : goal.invariant-loop-at
invariant-loop-at g l = IsWrittenTo (g.W.Write.contents l.initial.writer) (g.W.Write.contents l.writer) l.message l.from l.at
