use Rattle.lalrpop_norm.proofs.CapLemmas.{faults_by_round}
use Rattle.lalrpop_norm.proofs.laws.faults_are_by_round.Goals as goal

pub returns : goal.returns
returns c = faults_by_round
