use Rattle.lalrpop_norm_model.proofs.ResolvedLemmas.{resolved_once}
use Rattle.lalrpop_norm_model.proofs.resolved_once.Goals as goal

pub returns : goal.returns
returns c = resolved_once
