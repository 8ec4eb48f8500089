use Rattle.lalrpop_norm_model.proofs.RenumberedLemmas.{disabled_only_renumber}
use Rattle.lalrpop_norm_model.proofs.disabled_only_renumber.Goals as goal

pub returns : goal.returns
returns c = disabled_only_renumber
