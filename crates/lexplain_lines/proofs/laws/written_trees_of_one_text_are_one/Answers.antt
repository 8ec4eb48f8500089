use Rattle.lexplain_lines.proofs.LinesBack.{written_from_text}
use Rattle.lexplain_lines.proofs.laws.written_trees_of_one_text_are_one.Goals as goal

pub returns : goal.returns
returns c = written_from_text
