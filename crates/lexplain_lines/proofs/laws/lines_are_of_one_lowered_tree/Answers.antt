use Rattle.lexplain_lines.proofs.TreesBack.{one_lowered}
use Rattle.lexplain_lines.proofs.laws.lines_are_of_one_lowered_tree.Goals as goal

pub returns : goal.returns
returns c = one_lowered
