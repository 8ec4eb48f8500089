use Rattle.lalrpop_norm_model.proofs.StepLemmas.{levels_steps}
use Rattle.lalrpop_norm_model.proofs.levels_are_steps.Goals as goal

pub returns : goal.returns
returns c = levels_steps c.levels_are_two_steps.ensures
