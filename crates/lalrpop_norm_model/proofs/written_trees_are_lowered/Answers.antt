use Rattle.lalrpop_norm_model.proofs.RenumberedTrees.{written_trees_lowered}
use Rattle.lalrpop_norm_model.proofs.written_trees_are_lowered.Goals as goal

pub returns : goal.returns
returns c = written_trees_lowered c.levels_are_two_steps.ensures
