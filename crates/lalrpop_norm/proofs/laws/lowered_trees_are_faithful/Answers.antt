use Rattle.lalrpop_norm.proofs.TreesFaithful.{lowered_trees_faithful}
use Rattle.lalrpop_norm.proofs.laws.lowered_trees_are_faithful.Goals as goal

pub returns : goal.returns
returns c = lowered_trees_faithful
