-- The exits by `?` of calls that reject, or report, and say what is so of an answer.
use Rattle.std.proofs.Common.{◌≡◌, Result, Ok, Err, MatchResult, List, sym, subst}
use Rattle.std.specs.Result.{IsErrAnd}
use Rattle.lalrpop_norm_faults.specs.declared.failure.NormFailure.{NormFailure}
use Rattle.lalrpop_norm_faults.specs.Faults.{Fault, Finding, IsTold, RefusesAmongOr}

pub exit_among_or : {P T : Type 0} (At : P → Fault → Type 0) (r : Result T NormFailure) (e : NormFailure) (fs : List (Finding P)) (Q : T → Type 0) →
    IsErrAnd r (λ x. x ≡ e) → IsTold At fs e → RefusesAmongOr At r fs Q
exit_among_or At (Ok x) e fs Q from h = absurd from
exit_among_or At (Err x) e fs Q from h = rw from h

pub exit_match : {T E : Type 0} (r : Result T E) (e : E) (P : T → Type 0) (Q : E → Type 0) → IsErrAnd r (λ x. x ≡ e) → Q e → MatchResult r P Q
exit_match (Ok x) e P Q from h = absurd from
exit_match (Err x) e P Q from h = subst Q (sym from) h
