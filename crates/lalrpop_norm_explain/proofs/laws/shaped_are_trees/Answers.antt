use Rattle.lalrpop_norm_explain.proofs.ShapedTrees.{trees_are_shaped}
use Rattle.lalrpop_norm_explain.proofs.laws.shaped_are_trees.Goals as goal

pub returns : goal.returns
returns c = trees_are_shaped
