use Rattle.lexplain_lines.proofs.TreesBack.{one_written}
use Rattle.lexplain_lines.proofs.laws.lines_are_of_one_written_tree.Goals as goal

pub returns : goal.returns
returns c = one_written
