use Rattle.std.proofs.Common.{rules}
use Rattle.lnorm_streams.proofs.FrontLemmas.{front_then}
use Rattle.lnorm_streams.proofs.message.write_marked.Goals as goal

pub returns-then-write_whole-clause-front : goal.returns-then-write_whole-clause-front
returns-then-write_whole-clause-front g c =
    let at = g.W.Write.contents in
    front_then (at c.args.writer.now) (at c.write_whole.new.writer) (at c.write_whole-then-write_whole.new.writer) c.args.piece.now c.args.mark.now (search rules) (search rules)
