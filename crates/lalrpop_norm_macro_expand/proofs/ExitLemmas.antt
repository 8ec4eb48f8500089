-- An error that is passed on: nothing is known of what was changed.
use Rattle.std.proofs.Common.{◌≡◌, Result, Ok, Err}
use Rattle.std.specs.Result.{OnOk, IsErrAnd}
use Rattle.lalrpop_norm_faults.specs.declared.failure.NormFailure.{NormFailure}

pub no_change : {T : Type 0} (r : Result T NormFailure) (f : NormFailure) → IsErrAnd r (λ g. g ≡ f) → (A : Type 0) → OnOk r A
no_change (Ok x) f from A = absurd from
no_change (Err g) f from A = tt
