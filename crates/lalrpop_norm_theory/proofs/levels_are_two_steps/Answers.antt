use Rattle.lalrpop_norm_theory.proofs.Composed.{levels_two_steps}
use Rattle.lalrpop_norm_theory.proofs.levels_are_two_steps.Goals as goal

pub returns : goal.returns
returns c = levels_two_steps
