use Rattle.lalrpop_norm_model.proofs.RoundReadLemmas.{rounds_are_read}
use Rattle.lalrpop_norm_model.proofs.rounds_are_read.Goals as goal

pub returns : goal.returns
returns c = rounds_are_read
