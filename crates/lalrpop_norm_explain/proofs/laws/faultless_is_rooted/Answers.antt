use Rattle.lalrpop_norm_explain.proofs.Derivations.{faultless_rooted}
use Rattle.lalrpop_norm_explain.proofs.laws.faultless_is_rooted.Goals as goal

pub returns : goal.returns
returns c = faultless_rooted
