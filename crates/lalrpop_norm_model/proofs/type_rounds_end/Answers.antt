use Rattle.lalrpop_norm_model.proofs.TypeEndLemmas.{inferred_end}
use Rattle.lalrpop_norm_model.proofs.type_rounds_end.Goals as goal

pub returns : goal.returns
returns c = inferred_end
