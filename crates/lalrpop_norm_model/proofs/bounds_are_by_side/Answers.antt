use Rattle.lalrpop_norm_model.proofs.BoundLemmas.{bounds_are_by_side}
use Rattle.lalrpop_norm_model.proofs.bounds_are_by_side.Goals as goal

pub returns : goal.returns
returns c = bounds_are_by_side
