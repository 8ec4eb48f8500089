use Rattle.lalrpop_norm_explain.proofs.Anywhere.{realized_anywhere}
use Rattle.lalrpop_norm_explain.proofs.laws.realized_call_fits_anywhere.Goals as goal

pub returns : goal.returns
returns c = realized_anywhere
