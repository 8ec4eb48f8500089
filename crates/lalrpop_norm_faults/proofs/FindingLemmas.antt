-- Findings: the faults that may be reported of lists one after the other, and what that says.
use Rattle.std.proofs.Common.{◌≡◌, ◌⊎◌, List, [], ◌∷◌, ◌++◌, map, Some, Result, Ok, Err, inl, inr, refl, ap, arith}
use Rattle.std.specs.Prelude.{Contains}
use Rattle.lalrpop_norm_faults.specs.declared.failure.NormFailure.{NormFailure}
use Rattle.lalrpop_norm_faults.specs.declared.failure.NormFailure.TheVariants.{Refused, Memory}
use Rattle.lalrpop_norm_faults.specs.Faults.{Fault, first, Refuses, Finding, sure, maybe, sure_ones, StandsAmong, MayBeTold, RefusesAmong}

-- ---- what it says

-- the first fault is one of the list
pub first_stands : (fs : List Fault) (f : Fault) → first fs ≡ Some f → Contains fs f
first_stands [] f h = absurd cc
first_stands (g ∷ fs) f h = let same : g ≡ f = cc in (0, omega arith, same)

-- what may be reported holds
pub told_stands : {P : Type 0} (At : P → Fault → Type 0) (fs : List (Finding P)) (f : Fault) → MayBeTold At fs f → StandsAmong At fs f
told_stands At [] f h = h
told_stands At (sure g ∷ fs) f h = inl h
told_stands At (maybe p ∷ fs) f (inl h) = inl h
told_stands At (maybe p ∷ fs) f (inr h) = inr (told_stands At fs f h)

-- What may be reported is the first of the sure ones, or holds at one of the points, with no sure fault before that.
pub told_by : {P : Type 0} (At : P → Fault → Type 0) (fs : List (Finding P)) (f : Fault) → MayBeTold At fs f →
    (first (sure_ones fs) ≡ Some f)
    ⊎ ((before : List (Finding P)) × (p : P) × (after : List (Finding P)) × (fs ≡ before ++ maybe p ∷ after) × (sure_ones before ≡ []) × At p f)
told_by At [] f h = absurd h
told_by At (sure g ∷ fs) f h = inl (ap Some h)
told_by At (maybe p ∷ fs) f (inl h) = inr ([], p, fs, refl, refl, h)
told_by {P} At (maybe q ∷ fs) f (inr h) = further (told_by At fs f h)
  where
    further : (first (sure_ones fs) ≡ Some f)
        ⊎ ((before : List (Finding P)) × (p : P) × (after : List (Finding P)) × (fs ≡ before ++ maybe p ∷ after) × (sure_ones before ≡ []) × At p f) →
        (first (sure_ones fs) ≡ Some f)
        ⊎ ((before : List (Finding P)) × (p : P) × (after : List (Finding P)) × (maybe q ∷ fs ≡ before ++ maybe p ∷ after) × (sure_ones before ≡ []) × At p f)
    further (inl e) = inl e
    further (inr (before, p, after, same, none, here)) = inr (maybe q ∷ before, p, after, ap (λ gs. maybe q ∷ gs) same, none, here)

-- ---- lists of sure faults

pub sure_all : (P : Type 0) (fs : List Fault) → sure_ones {P = P} (map sure fs) ≡ fs
sure_all P [] = refl
sure_all P (f ∷ fs) = ap (λ gs. f ∷ gs) (sure_all P fs)

pub first_told : {P : Type 0} (At : P → Fault → Type 0) (fs : List Fault) (f : Fault) → first fs ≡ Some f → MayBeTold At (map sure fs) f
first_told At [] f h = absurd cc
first_told At (g ∷ fs) f h = cc

-- a call that reports the first of a list, among calls of which some faults may go unreported
pub refuses_among : {P T : Type 0} (At : P → Fault → Type 0) (r : Result T NormFailure) (fs : List Fault) → Refuses r fs → RefusesAmong At r (map sure fs)
refuses_among {P} At (Ok x) fs h = rw (sure_all P fs) h
refuses_among At (Err (Refused e)) fs h = first_told At fs (e.fault, e.span) h
refuses_among At (Err Memory) fs h = tt

-- ---- one list after the other

pub told_left : {P : Type 0} (At : P → Fault → Type 0) (xs ys : List (Finding P)) (f : Fault) → MayBeTold At xs f → MayBeTold At (xs ++ ys) f
told_left At [] ys f h = absurd h
told_left At (sure g ∷ xs) ys f h = h
told_left At (maybe p ∷ xs) ys f (inl h) = inl h
told_left At (maybe p ∷ xs) ys f (inr h) = inr (told_left At xs ys f h)

pub told_right : {P : Type 0} (At : P → Fault → Type 0) (xs ys : List (Finding P)) (f : Fault) → sure_ones xs ≡ [] → MayBeTold At ys f → MayBeTold At (xs ++ ys) f
told_right At [] ys f none h = h
told_right At (sure g ∷ xs) ys f none h = absurd cc
told_right At (maybe p ∷ xs) ys f none h = inr (told_right At xs ys f none h)

pub sure_append : {P : Type 0} (xs ys : List (Finding P)) → sure_ones (xs ++ ys) ≡ sure_ones xs ++ sure_ones ys
sure_append [] ys = refl
sure_append (sure g ∷ xs) ys = ap (λ fs. g ∷ fs) (sure_append xs ys)
sure_append (maybe p ∷ xs) ys = sure_append xs ys
