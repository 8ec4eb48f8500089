-- First faults of joined lists.
use Rattle.std.proofs.Common.{◌≡◌, ◌<◌, ◌+◌, ℕ, Bool, true, false, not, None, Result, Ok, Err, refl, get_or, drop, sym, ap, ◌∙◌, List, [], ◌∷◌, ◌++◌, length}
use Rattle.lalrpop_norm_faults.specs.declared.failure.NormFailure.{NormFailure}
use Rattle.lalrpop_norm_faults.specs.declared.failure.NormFailure.TheVariants.{Refused, Memory}
use Rattle.std.specs.Result.{IsErrAnd}
use Rattle.std.proofs.lemmas.List.{at_drop_more}
use Rattle.lalrpop_norm_faults.specs.Faults.{Fault, IsFirst, Refuses, RefusesOr, fault_if, first}

-- what is first of some faults is first of them and more
pub first_of_more : (xs ys : List Fault) (e : NormFailure) → IsFirst xs e → IsFirst (xs ++ ys) e
first_of_more [] ys (Refused e) h = cc
first_of_more [] ys Memory h = tt
first_of_more (x ∷ xs) ys e h = h

-- the exit by `?` where the faults begin with the callee's
pub exit_at : {T : Type 0} (r : Result T NormFailure) (e : NormFailure) (here rest all : List Fault) → IsErrAnd r (λ x. x ≡ e) → IsFirst here e → all ≡ here ++ rest → Refuses r all
exit_at (Ok x) e here rest all from h same = absurd from
exit_at (Err x) e here rest all from h same = rw (from, same) (first_of_more here rest e h)

-- a function of what is left of a list, where x is the next element
pub at_drop_item : {X Y : Type 0} (F : List X → Y) (xs : List X) (i : ℕ) (x : X) → i < length xs → x ≡ get_or xs i x → F (drop i xs) ≡ F (x ∷ drop (i + 1) xs)
at_drop_item F xs i x lt is = at_drop_more F xs i x lt ∙ ap (λ y. F (y ∷ drop (i + 1) xs)) (sym is)

pub left_none : (xs ys : List Fault) → xs ++ ys ≡ [] → xs ≡ []
left_none [] ys h = refl
left_none (x ∷ xs) ys h = cc

pub right_none : (xs ys : List Fault) → xs ++ ys ≡ [] → ys ≡ []
right_none [] ys h = h
right_none (x ∷ xs) ys h = cc

pub not_fault : (b : Bool) (f : Fault) → fault_if b f ≡ [] → b ≡ false
not_fault true f h = absurd (cc h)
not_fault false f h = refl

pub none_first : (fs : List Fault) → first fs ≡ None → fs ≡ []
none_first [] e = refl
none_first (f ∷ fs) e = absurd (cc e)

pub both_none : (xs ys : List Fault) → xs ≡ [] → ys ≡ [] → xs ++ ys ≡ []
both_none xs ys h k = rw h k

-- what is ahead of no faults is none
pub none_ahead : (b : Bool) (f : Fault) (fs : List Fault) → fault_if b f ++ fs ≡ [] → b ≡ false
none_ahead true f fs h = cc
none_ahead false f fs h = refl

-- a fault that holds unless something else does
pub holds_unless : (b : Bool) (f : Fault) → fault_if (not b) f ≡ [] → b ≡ true
holds_unless true f h = refl
holds_unless false f h = absurd (cc h)

-- the exit by `?` where the faults are the callee's, and something is so of an answer
pub exit_or : {T : Type 0} (r : Result T NormFailure) (e : NormFailure) (fs : List Fault) (P : T → Type 0) → IsErrAnd r (λ x. x ≡ e) → IsFirst fs e → RefusesOr r fs P
exit_or (Ok x) e fs P from h = absurd from
exit_or (Err x) e fs P from h = rw from h
