use Rattle.lalrpop_norm_model.proofs.BoundLemmas.{conditions_decide}
use Rattle.lalrpop_norm_model.proofs.conditions_decide.Goals as goal

pub returns : goal.returns
returns c = conditions_decide
