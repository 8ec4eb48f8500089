use Rattle.lalrpop_norm_model.proofs.RenumberedTrees.{trees_only_renumber}
use Rattle.lalrpop_norm_model.proofs.trees_only_renumber.Goals as goal

pub returns : goal.returns
returns c = trees_only_renumber
