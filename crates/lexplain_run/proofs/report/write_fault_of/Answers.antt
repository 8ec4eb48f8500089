use Rattle.std.proofs.Common.{rules}
use Rattle.lnorm_streams.proofs.FrontLemmas.{front_here, front_then}
use Rattle.lexplain_run.specs.Stops.{tree_fault_line}
use Rattle.lexplain_run.proofs.report.write_fault_of.Goals as goal

pub returns-then-write_whole : goal.returns-then-write_whole
returns-then-write_whole g c =
    let at = g.E.Write.contents in
    front_then (at c.args.faults.now) (at c.write_whole.new.writer) (at c.write_fault.new.faults) c.args.which.now (tree_fault_line c.args.fault c.args.path.now) (search rules) (search rules)

pub returns-else-write_whole : goal.returns-else-write_whole
returns-else-write_whole g c =
    let at = g.E.Write.contents in
    front_here (at c.args.faults.now) (at c.write_whole.new.writer) c.args.which.now (tree_fault_line c.args.fault c.args.path.now) (search rules)
