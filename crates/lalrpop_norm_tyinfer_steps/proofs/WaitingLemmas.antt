-- The indices on the worklist.
use Rattle.std.proofs.Common.{◌≡◌, ◌==◌, ◌||◌, inl, inr, ℕ, true, List, [], ◌∷◌, ◌++◌, refl, sym, ◌∙◌}
use Rattle.std.proofs.lemmas.Bool.Decides.{eqb_tells}
use Rattle.lalrpop_norm_theory.specs.Rounds.{In}
use Rattle.lalrpop_norm_theory.proofs.BoolLemmas.{or_right}
use Rattle.lalrpop_norm_theory.proofs.ListLemmas.{in_one}
use Rattle.lalrpop_norm_theory.proofs.RoundsLemmas.{in_left, in_right, in_cases}
use Rattle.lalrpop_norm_tyinfer_steps.specs.declared.waiting.Waiting.{Waiting}
use Rattle.lalrpop_norm_tyinfer_steps.specs.Waiting.{has}

module _ (before after : Waiting) (xs : List ℕ) (x : ℕ) (add : (k : ℕ) → has after k ≡ ((x == k) || has before k)) where
  -- one more index is on the worklist
  pub added_all : ((k : ℕ) → In k xs → has before k ≡ true) → (k : ℕ) → In k (xs ++ x ∷ []) → has after k ≡ true
  added_all all k h = add k ∙ elim (in_cases k xs (x ∷ []) h) [
    | inl i ↦ or_right (x == k) (has before k) (all k i)
    | inr i ↦ elim (eqb_tells x k) [ inl w ↦ rw w.0 refl | inr w ↦ absurd (w.1 (sym (in_one k x i))) ]
  ]

  -- and no other
  pub added_only : ((k : ℕ) → has before k ≡ true → In k xs) → (k : ℕ) → has after k ≡ true → In k (xs ++ x ∷ [])
  added_only only k h = elim (eqb_tells x k) [
    | inl w ↦ in_right k xs (x ∷ []) (inl (sym w.1))
    | inr w ↦ in_left k xs (x ∷ []) (only k (sym (rw w.0 at (add k)) ∙ h))
  ]
