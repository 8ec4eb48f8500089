use Rattle.lalrpop_norm_model.proofs.RenumberedLemmas.{ranks_count_enabled}
use Rattle.lalrpop_norm_model.proofs.ranks_count_enabled.Goals as goal

pub returns : goal.returns
returns c = ranks_count_enabled
