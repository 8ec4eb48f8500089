use Rattle.lalrpop_norm_model.proofs.TypeFaultLemmas.{disagreements_are_two_types}
use Rattle.lalrpop_norm_model.proofs.disagreements_are_two_types.Goals as goal

pub returns : goal.returns
returns c = disagreements_are_two_types
