use Rattle.lalrpop_norm_model.proofs.MadeReadLemmas.{made_rules_are_read}
use Rattle.lalrpop_norm_model.proofs.made_rules_are_read.Goals as goal

pub returns : goal.returns
returns c = made_rules_are_read
