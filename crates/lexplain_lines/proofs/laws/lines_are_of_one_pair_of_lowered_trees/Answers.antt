use Rattle.lexplain_lines.proofs.TreesBack.{one_two_lowered}
use Rattle.lexplain_lines.proofs.laws.lines_are_of_one_pair_of_lowered_trees.Goals as goal

pub returns : goal.returns
returns c = one_two_lowered
