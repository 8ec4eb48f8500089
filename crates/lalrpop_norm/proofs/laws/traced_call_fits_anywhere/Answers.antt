use Rattle.lalrpop_norm.proofs.WrittenCalls.{call_fits_anywhere}
use Rattle.lalrpop_norm.proofs.laws.traced_call_fits_anywhere.Goals as goal

pub returns : goal.returns
returns c = call_fits_anywhere
