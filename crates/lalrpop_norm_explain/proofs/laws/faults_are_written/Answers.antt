use Rattle.lalrpop_norm_explain.proofs.Shapes.{faults_written}
use Rattle.lalrpop_norm_explain.proofs.laws.faults_are_written.Goals as goal

pub returns : goal.returns
returns c = faults_written
