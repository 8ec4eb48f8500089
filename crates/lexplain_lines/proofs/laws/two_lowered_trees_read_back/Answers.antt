use Rattle.lexplain_lines.proofs.LinesBack.{two_lowered_back}
use Rattle.lexplain_lines.proofs.laws.two_lowered_trees_read_back.Goals as goal

pub returns : goal.returns
returns c = two_lowered_back
