use Rattle.lexplain_run.proofs.OneForm.{one_form}
use Rattle.lexplain_run.proofs.ThereAndBack.{written_back_again}
use Rattle.lexplain_run.proofs.laws.explaining_undoes_lowering.Goals as goal

pub returns : goal.returns
returns c = written_back_again one_form
