use Rattle.std.proofs.Common.{codes, rules}
use Rattle.lnorm_streams.specs.Streams.{one_line}
use Rattle.lnorm_streams.proofs.FrontLemmas.{front_then}
use Rattle.lnorm_streams.proofs.halt.end_line.Goals as goal

pub returns-then-write_message-clause-front : goal.returns-then-write_message-clause-front
returns-then-write_message-clause-front g c =
    let at = g.E.Write.contents in
    front_then (at c.args.faults.now) (at c.write_message.new.writer) (at c.write_whole.new.writer) (one_line c.args.message.now) (codes "\n") (search rules) (search rules)
