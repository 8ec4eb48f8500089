use Rattle.lalrpop_norm.proofs.TreesMacros.{levels_settle_macros}
use Rattle.lalrpop_norm.proofs.laws.levels_settle_macros.Goals as goal

pub returns : goal.returns
returns c = levels_settle_macros
