use Rattle.lalrpop_norm_model.proofs.MetReadLemmas.{met_is_read}
use Rattle.lalrpop_norm_model.proofs.met_is_read.Goals as goal

pub returns : goal.returns
returns c = met_is_read
