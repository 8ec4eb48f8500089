use Rattle.lalrpop_norm.proofs.OneRuleLemmas.{resolved_settled}
use Rattle.lalrpop_norm.proofs.laws.resolved_grammars_are_settled.Goals as goal

pub returns : goal.returns
returns c = resolved_settled
