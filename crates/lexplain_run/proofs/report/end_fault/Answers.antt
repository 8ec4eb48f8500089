use Rattle.std.proofs.Common.{codes, rules}
use Rattle.lnorm_streams.proofs.FrontLemmas.{front_here, front_then}
use Rattle.lexplain_run.specs.Stops.{child_path_text}
use Rattle.lexplain_run.proofs.report.end_fault.Goals as goal

pub returns-then-write_path : goal.returns-then-write_path
returns-then-write_path g c =
    let at = g.E.Write.contents in
    front_then (at c.args.faults.now) (at c.write_path.new.faults) (at c.write_whole.new.writer) (child_path_text c.args.path.now) (codes "\n") (search rules) (search rules)

pub returns-else-write_path : goal.returns-else-write_path
returns-else-write_path g c =
    let at = g.E.Write.contents in
    front_here (at c.args.faults.now) (at c.write_path.new.faults) (child_path_text c.args.path.now) (codes "\n") (search rules)
