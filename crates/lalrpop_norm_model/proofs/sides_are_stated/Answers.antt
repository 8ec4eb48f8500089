use Rattle.lalrpop_norm_model.proofs.StatedLemmas.{sides_are_stated}
use Rattle.lalrpop_norm_model.proofs.sides_are_stated.Goals as goal

pub returns : goal.returns
returns c = sides_are_stated
