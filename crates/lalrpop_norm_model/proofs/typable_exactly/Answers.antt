use Rattle.lalrpop_norm_model.proofs.TypableLemmas.{typable_exactly}
use Rattle.lalrpop_norm_model.proofs.typable_exactly.Goals as goal

pub returns : goal.returns
returns c = typable_exactly
