use Rattle.lexplain_lines.proofs.LinesBack.{lowered_from_text}
use Rattle.lexplain_lines.proofs.laws.lowered_trees_of_one_text_are_one.Goals as goal

pub returns : goal.returns
returns c = lowered_from_text
