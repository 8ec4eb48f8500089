-- The faults that may be reported of a short list, and those that may not.
use Rattle.std.proofs.Common.{◌≡◌, ℕ, List, [], ◌∷◌, inl, inr, refl, ap, arith}
use Rattle.lalrpop_norm_tree_names.specs.declared.names.Span.{Span}
use Rattle.lalrpop_norm_faults.specs.declared.kind.FaultKind.TheVariants.{ConditionArgument, ConditionPattern, NamedInGroup}
use Rattle.lalrpop_norm_faults.specs.Faults.{Fault, Finding, sure, maybe, sure_ones, StandsAmong, MayBeTold}

abbrev place : ℕ → Span
place k = record { 0 = k; 1 = k }

-- two patterns at the points 1 and 3, of which only the second is bad, and sure faults at 2 and 4
abbrev Bad : ℕ → Fault → Type 0
Bad k f = (k ≡ 3) × (f ≡ (ConditionPattern, place k))

abbrev findings : List (Finding ℕ)
findings = maybe 1 ∷ sure (ConditionArgument, place 2) ∷ maybe 3 ∷ sure (NamedInGroup, place 4) ∷ []

sure_places : sure_ones findings ≡ (ConditionArgument, place 2) ∷ (NamedInGroup, place 4) ∷ []
sure_places = refl

-- the first sure one may be reported
first_is_told : MayBeTold Bad findings (ConditionArgument, place 2)
first_is_told = inr refl

-- what comes after it holds, and may not be reported
later_stands : StandsAmong Bad findings (ConditionPattern, place 3)
later_stands = inr (inr (inl (refl, refl)))

later_is_not_told : MayBeTold Bad findings (ConditionPattern, place 3) → ⊥
later_is_not_told (inl h) = let apart : 1 ≡ 3 = h.0 in absurd (omega (arith, apart))
later_is_not_told (inr h) = let apart : 2 ≡ 3 = ap (λ (f : Fault). f.1.0) h in absurd (omega (arith, apart))

-- nor may what does not hold, though nothing comes before it
good_is_not_told : MayBeTold Bad findings (ConditionPattern, place 1) → ⊥
good_is_not_told (inl h) = let apart : 1 ≡ 3 = h.0 in absurd (omega (arith, apart))
good_is_not_told (inr h) = let apart : 2 ≡ 1 = ap (λ (f : Fault). f.1.0) h in absurd (omega (arith, apart))

-- without the sure one the bad pattern may be reported, past the good one
bad_is_told : MayBeTold Bad (maybe 1 ∷ maybe 3 ∷ []) (ConditionPattern, place 3)
bad_is_told = inr (inl (refl, refl))
