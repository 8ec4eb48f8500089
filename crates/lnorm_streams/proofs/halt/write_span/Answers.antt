use Rattle.std.proofs.Common.{◌++◌, codes, decimal, rules}
use Rattle.lnorm_streams.proofs.FrontLemmas.{front_then}
use Rattle.lnorm_streams.proofs.halt.write_span.Goals as goal

pub returns-then-write_number-clause-front : goal.returns-then-write_number-clause-front
returns-then-write_number-clause-front g c =
    let at = g.E.Write.contents in
    front_then (at c.args.faults.now) (at c.write_number.new.faults) (at c.write_number-then-write_number.new.faults)
    (decimal c.args.span.0 ++ codes "..") (decimal c.args.span.1 ++ codes ": ") (search rules) (search rules)
