use Rattle.lalrpop_norm_model.proofs.LevelLemmas.{highest_is_greatest}
use Rattle.lalrpop_norm_model.proofs.highest_is_greatest.Goals as goal

pub returns : goal.returns
returns c = highest_is_greatest
