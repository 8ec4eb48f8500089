use Rattle.lalrpop_norm_theory.proofs.Trees.{trees_one_to_one}
use Rattle.lalrpop_norm_theory.proofs.trees_are_one_to_one.Goals as goal

pub returns : goal.returns
returns c = trees_one_to_one
