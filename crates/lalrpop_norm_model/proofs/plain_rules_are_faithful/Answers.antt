use Rattle.lalrpop_norm_model.proofs.FaithfulLemmas.{plain_rules_are_faithful}
use Rattle.lalrpop_norm_model.proofs.plain_rules_are_faithful.Goals as goal

pub returns : goal.returns
returns c = plain_rules_are_faithful
