use Rattle.lalrpop_norm_model.proofs.TypeFaultLemmas.{untyped_rules_have_no_type}
use Rattle.lalrpop_norm_model.proofs.untyped_rules_have_no_type.Goals as goal

pub returns : goal.returns
returns c = untyped_rules_have_no_type
