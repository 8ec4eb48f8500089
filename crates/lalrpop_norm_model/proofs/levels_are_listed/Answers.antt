use Rattle.lalrpop_norm_model.proofs.LevelLemmas.{levels_are_listed}
use Rattle.lalrpop_norm_model.proofs.levels_are_listed.Goals as goal

pub returns : goal.returns
returns c = levels_are_listed
