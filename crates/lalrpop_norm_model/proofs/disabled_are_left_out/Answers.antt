use Rattle.lalrpop_norm_model.proofs.RenumberedLemmas.{disabled_are_left_out}
use Rattle.lalrpop_norm_model.proofs.disabled_are_left_out.Goals as goal

pub returns : goal.returns
returns c = disabled_are_left_out
