use Rattle.lalrpop_norm_explain.proofs.Anywhere.{faultless_derived}
use Rattle.lalrpop_norm_explain.proofs.laws.faultless_is_derived.Goals as goal

pub returns : goal.returns
returns c = faultless_derived
