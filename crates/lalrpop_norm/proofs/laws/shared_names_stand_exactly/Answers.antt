use Rattle.lalrpop_norm.proofs.SharedChains.{shared_names_stand}
use Rattle.lalrpop_norm.proofs.laws.shared_names_stand_exactly.Goals as goal

pub returns : goal.returns
returns c = shared_names_stand
