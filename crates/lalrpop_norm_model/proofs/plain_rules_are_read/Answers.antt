use Rattle.lalrpop_norm_model.proofs.PlainReadLemmas.{plain_rules_are_read}
use Rattle.lalrpop_norm_model.proofs.plain_rules_are_read.Goals as goal

pub returns : goal.returns
returns c = plain_rules_are_read
