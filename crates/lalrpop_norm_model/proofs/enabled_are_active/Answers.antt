use Rattle.lalrpop_norm_model.proofs.EnabledLemmas.{enabled_are_active}
use Rattle.lalrpop_norm_model.proofs.enabled_are_active.Goals as goal

pub returns : goal.returns
returns c = enabled_are_active
