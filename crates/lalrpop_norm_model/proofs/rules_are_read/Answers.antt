use Rattle.lalrpop_norm_model.proofs.MadeReadLemmas.{rules_are_read}
use Rattle.lalrpop_norm_model.proofs.rules_are_read.Goals as goal

pub returns : goal.returns
returns c = rules_are_read
