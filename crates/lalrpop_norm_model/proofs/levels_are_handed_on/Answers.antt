use Rattle.lalrpop_norm_model.proofs.HandedLemmas.{levels_are_handed_on}
use Rattle.lalrpop_norm_model.proofs.levels_are_handed_on.Goals as goal

pub returns : goal.returns
returns c = levels_are_handed_on
