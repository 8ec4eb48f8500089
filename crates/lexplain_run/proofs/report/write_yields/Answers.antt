use Rattle.std.proofs.Common.{codes, decimal, rules}
use Rattle.lexplain_run.proofs.ReportLemmas.{first_begun, more_begun}
use Rattle.lexplain_run.proofs.report.write_yields.Goals as goal

pub returns-then-write_number : goal.returns-then-write_number
returns-then-write_number g c =
    let at = g.E.Write.contents in
    more_begun (at c.args.faults.now) (at c.write_whole.new.writer) (codes "X6 ") (decimal c.args.index) (codes "\n")
    (at c.write_number.new.faults) (search rules) (search rules)

pub returns-else-write_number : goal.returns-else-write_number
returns-else-write_number g c =
    let at = g.E.Write.contents in
    first_begun (at c.args.faults.now) (at c.write_number.new.faults) (codes "X6 ") (decimal c.args.index) (codes "\n") (search rules)
