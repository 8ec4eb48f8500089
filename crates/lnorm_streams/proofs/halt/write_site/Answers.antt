use Rattle.std.proofs.Common.{◌++◌, codes, rules}
use Rattle.lnorm_streams.specs.Streams.{span_text}
use Rattle.lnorm_streams.proofs.FrontLemmas.{front_then}
use Rattle.lnorm_streams.proofs.halt.write_site.Goals as goal

pub returns-then-write_both-clause-front : goal.returns-then-write_both-clause-front
returns-then-write_both-clause-front g c =
    let at = g.E.Write.contents in
    front_then (at c.args.faults.now) (at c.write_both.new.writer) (at c.write_span.new.faults)
    (c.args.code.now ++ codes " ") (span_text c.args.span) (search rules) (search rules)
