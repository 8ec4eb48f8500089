-- What a step of a reader leaves: an error that is propagated, fewer tokens, a lesser measure.
use Rattle.std.proofs.Common.{◌≡◌, ℕ, ◌+◌, ◌*◌, ◌<◌, ◌≤◌, Result, Ok, Err, arith}
use Rattle.std.specs.Prelude.{IsErr, IfOk, OnOk}
use Rattle.std.specs.Result.{IsErrAnd}
use Rattle.json_records.specs.declared.error.ReadError.{ReadError}
use Rattle.json_records.specs.declared.error.ReadError.TheVariants.{NotJson}
use Rattle.json_records.proofs.Turns as turn

-- the error that is propagated is the call's: of c.from_residual-in_err-X.ensures
pub same_error : {S T E : Type 0} (e : E) {r : Result T E} {f : E} → IsErr r × IsErrAnd r (λ g. g ≡ e) → r ≡ Err f → ◌≡◌ {A = Result S E} (Err e) (Err f)
same_error e {r = Ok x} p is = absurd (cc)
same_error e {r = Err y} p is = cc (p.1, is)

-- ---- what is known where a reader returns

abbrev pub Refuses : {S : Type 0} → Result S ReadError → (S → Type 0) → Type 0 → Type 0 → Type 0
Refuses r P Q R = record { ok : IfOk r P; err : r ≡ Err NotJson → Q; shorter : OnOk r R }

-- an error that is propagated: c.from_residual-in_err-X.ensures, and why nothing is read where it is `NotJson`
pub fails : {S T Q : Type 0} (P : S → Type 0) (R : Type 0) (e : ReadError) {r : Result S ReadError} → IsErr r × IsErrAnd r (λ g. g ≡ e) → (◌≡◌ {A = Result T ReadError} (Err e) (Err NotJson) → Q) → Refuses r P Q R
fails P R e {r = Ok x} p told = absurd (cc)
fails P R e {r = Err y} p told = record { ok = tt; err = λ is. told (same_error e p is); shorter = tt }

-- an error of a call that has no other
pub stops : {S Q : Type 0} (P : S → Type 0) (R : Type 0) {r : Result S ReadError} → IsErr r → Q → Refuses r P Q R
stops P R {r = Ok x} p none = absurd (cc)
stops P R {r = Err y} p none = record { ok = tt; err = λ is. none; shorter = tt }

abbrev pub Answers : {S : Type 0} → S → Type 0 → Type 0 → Type 0 → Type 0
Answers o P Q R = record { ok : P; err : ◌≡◌ {A = Result _ ReadError} (Ok o) (Err NotJson) → Q; shorter : R }

-- what was read, and that no more tokens are left
pub answers : {S P Q R : Type 0} {o : S} → P → R → Answers o P Q R
answers read less = record { ok = read; err = turn.never_refused; shorter = less }

-- ---- the measure of a call behind a token: n are left, m before it and k at the start

pub twice : {n m k t : ℕ} → n < m → m ≤ k → 2 * k ≡ t → 2 * n < t
twice p q is = omega (arith, p, q, is)

pub twice_one : {n m k t : ℕ} → n < m → m ≤ k → 2 * k ≡ t → 2 * n + 1 < t
twice_one p q is = omega (arith, p, q, is)

pub thrice : {n m k t : ℕ} → n < m → m ≤ k → 3 * k ≡ t → 3 * n < t
thrice p q is = omega (arith, p, q, is)

pub thrice_one : {n m k t : ℕ} → n < m → m ≤ k → 3 * k ≡ t → 3 * n + 1 < t
thrice_one p q is = omega (arith, p, q, is)

pub thrice_two : {n m k t : ℕ} → n < m → m ≤ k → 3 * k ≡ t → 3 * n + 2 < t
thrice_two p q is = omega (arith, p, q, is)

-- ---- the measure of a call at the same token

pub one_down : {k t : ℕ} → k + 1 ≡ t → k < t
one_down is = omega (arith, is)
