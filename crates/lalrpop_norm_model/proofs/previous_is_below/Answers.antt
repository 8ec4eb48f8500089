use Rattle.lalrpop_norm_model.proofs.LevelLemmas.{previous_is_below}
use Rattle.lalrpop_norm_model.proofs.previous_is_below.Goals as goal

pub returns : goal.returns
returns c = previous_is_below
