use Rattle.lexplain_lines.proofs.LinesBack.{lowered_back}
use Rattle.lexplain_lines.proofs.laws.lowered_lines_read_back.Goals as goal

pub returns : goal.returns
returns c = lowered_back
