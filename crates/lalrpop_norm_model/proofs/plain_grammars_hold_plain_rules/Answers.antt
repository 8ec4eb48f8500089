use Rattle.lalrpop_norm_model.proofs.FaithfulLemmas.{plain_grammars_hold_plain_rules}
use Rattle.lalrpop_norm_model.proofs.plain_grammars_hold_plain_rules.Goals as goal

pub returns : goal.returns
returns c = plain_grammars_hold_plain_rules
