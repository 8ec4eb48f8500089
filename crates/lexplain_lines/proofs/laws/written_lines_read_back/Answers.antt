use Rattle.lexplain_lines.proofs.LinesBack.{written_back}
use Rattle.lexplain_lines.proofs.laws.written_lines_read_back.Goals as goal

pub returns : goal.returns
returns c = written_back
