use Rattle.lexplain_run.proofs.OneForm.{one_form}
use Rattle.lexplain_run.proofs.ThereAndBack.{lowered_back_again}
use Rattle.lexplain_run.proofs.laws.lowering_undoes_explaining.Goals as goal

pub returns : goal.returns
returns c = lowered_back_again one_form
