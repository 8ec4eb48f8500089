use Rattle.lalrpop_norm_model.proofs.ScopeLemmas.{meanings_are_resolved}
use Rattle.lalrpop_norm_model.proofs.meanings_are_resolved.Goals as goal

pub returns : goal.returns
returns c = meanings_are_resolved
