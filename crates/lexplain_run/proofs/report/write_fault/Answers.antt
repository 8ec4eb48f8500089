use Rattle.std.proofs.Common.{◌++◌, codes, rules}
use Rattle.lalrpop_norm_explain.specs.FaultCodes.{tree_fault_code}
use Rattle.lexplain_run.specs.Stops.{child_path_text}
use Rattle.lexplain_run.proofs.ReportLemmas.{first_begun, more_begun}
use Rattle.lexplain_run.proofs.report.write_fault.Goals as goal

pub returns-then-write_both : goal.returns-then-write_both
returns-then-write_both g c =
    let at = g.E.Write.contents in
    more_begun (at c.args.faults.now) (at c.end_fault.new.faults) (tree_fault_code c.args.fault) (codes " ") (child_path_text c.args.path.now ++ codes "\n")
    (at c.write_both.new.writer) (search rules) (search rules)

pub returns-else-write_both : goal.returns-else-write_both
returns-else-write_both g c =
    let at = g.E.Write.contents in
    first_begun (at c.args.faults.now) (at c.write_both.new.writer) (tree_fault_code c.args.fault) (codes " ") (child_path_text c.args.path.now ++ codes "\n")
    (search rules)
