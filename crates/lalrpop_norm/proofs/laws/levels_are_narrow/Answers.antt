use Rattle.lalrpop_norm.proofs.WrittenCalls.{levels_narrow}
use Rattle.lalrpop_norm.proofs.laws.levels_are_narrow.Goals as goal

pub returns : goal.returns
returns c = levels_narrow
