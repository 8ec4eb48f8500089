-- Loops that keep a state and reject by the first fault.
use Rattle.std.proofs.Common.{◌≡◌, ◌<◌, ◌+◌, ℕ, Result, List, [], ◌∷◌, ◌++◌, length, drop, get_or, sym, ap, ◌∙◌}
use Rattle.std.specs.Result.{IsErrAnd}
use Rattle.lalrpop_norm_faults.specs.declared.failure.NormFailure.{NormFailure}
use Rattle.lalrpop_norm_faults.specs.Faults.{Fault, IsFirst, Refuses}
use Rattle.lalrpop_norm_faults.proofs.FaultLemmas.{exit_at, at_drop_item}

-- A loop that goes on from a state, where the next element has these faults and leads to the state `stepped`.
module _ {X S : Type 0} (faults : S → List X → List Fault) (end : S → List X → S) (xs : List X) (i : ℕ) (x : X) (old : S)
    (lt : i < length xs) (is : x ≡ get_or xs i x) (here : List Fault) (stepped : S)
    (more : faults old (x ∷ drop (i + 1) xs) ≡ here ++ faults stepped (drop (i + 1) xs))
    (on : end old (x ∷ drop (i + 1) xs) ≡ end stepped (drop (i + 1) xs)) where
  pub next_end : (new last : S) → new ≡ stepped → end old (drop i xs) ≡ last → end new (drop (i + 1) xs) ≡ last
  next_end new last made before = ap (λ s. end s (drop (i + 1) xs)) made ∙ (sym on ∙ (sym (at_drop_item (end old) xs i x lt is) ∙ before))

  pub next_faults : (new : S) (all : List Fault) → here ≡ [] → new ≡ stepped → faults old (drop i xs) ≡ all → faults new (drop (i + 1) xs) ≡ all
  next_faults new all none made before =
      ap (λ s. faults s (drop (i + 1) xs)) made
      ∙ (ap (λ fs. fs ++ faults stepped (drop (i + 1) xs)) (sym none) ∙ (sym more ∙ (sym (at_drop_item (faults old) xs i x lt is) ∙ before)))

  pub exit_state : {T : Type 0} (r : Result T NormFailure) (e : NormFailure) (all : List Fault) → IsErrAnd r (λ y. y ≡ e) → IsFirst here e →
      faults old (drop i xs) ≡ all → Refuses r all
  exit_state r e all from h before =
      exit_at r e here (faults stepped (drop (i + 1) xs)) all from h (sym before ∙ (at_drop_item (faults old) xs i x lt is ∙ more))
