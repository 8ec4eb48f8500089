use Rattle.lalrpop_norm_model.proofs.EnteredTokens.{entered_typed}
use Rattle.lalrpop_norm_model.proofs.entered_are_typed.Goals as goal

pub returns : goal.returns
returns c = entered_typed
