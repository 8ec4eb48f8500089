use Rattle.lalrpop_norm_model.proofs.EnteredLemmas.{entered_expanded}
use Rattle.lalrpop_norm_model.proofs.entered_are_expanded.Goals as goal

pub returns : goal.returns
returns c = entered_expanded
