use Rattle.lalrpop_norm.proofs.WrittenCalls.{calls_fit}
use Rattle.lalrpop_norm.proofs.laws.traced_calls_fit.Goals as goal

pub returns : goal.returns
returns c = calls_fit
