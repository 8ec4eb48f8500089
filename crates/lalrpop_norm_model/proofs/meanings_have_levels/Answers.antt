use Rattle.lalrpop_norm_model.proofs.MeaningLemmas.{meanings_have_levels}
use Rattle.lalrpop_norm_model.proofs.meanings_have_levels.Goals as goal

pub returns : goal.returns
returns c = meanings_have_levels
