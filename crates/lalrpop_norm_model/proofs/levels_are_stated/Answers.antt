use Rattle.lalrpop_norm_model.proofs.StatedLemmas.{levels_are_stated}
use Rattle.lalrpop_norm_model.proofs.levels_are_stated.Goals as goal

pub returns : goal.returns
returns c = levels_are_stated
