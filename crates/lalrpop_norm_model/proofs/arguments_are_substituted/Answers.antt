use Rattle.lalrpop_norm_model.proofs.SubstitutedLemmas.{arguments_are_substituted}
use Rattle.lalrpop_norm_model.proofs.arguments_are_substituted.Goals as goal

pub returns : goal.returns
returns c = arguments_are_substituted
