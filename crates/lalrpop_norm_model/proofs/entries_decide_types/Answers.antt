use Rattle.lalrpop_norm_model.proofs.EnteredTypes.{entries_decide}
use Rattle.lalrpop_norm_model.proofs.entries_decide_types.Goals as goal

pub returns : goal.returns
returns c = entries_decide
