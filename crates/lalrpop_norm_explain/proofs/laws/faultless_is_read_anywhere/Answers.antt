use Rattle.lalrpop_norm_explain.proofs.Anywhere.{faultless_read_anywhere}
use Rattle.lalrpop_norm_explain.proofs.laws.faultless_is_read_anywhere.Goals as goal

pub returns : goal.returns
returns c = faultless_read_anywhere
