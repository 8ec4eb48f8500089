use Rattle.lalrpop_norm.proofs.TreesStarts.{names_are_own}
use Rattle.lalrpop_norm.proofs.laws.names_are_own.Goals as goal

pub returns : goal.returns
returns c = names_are_own
