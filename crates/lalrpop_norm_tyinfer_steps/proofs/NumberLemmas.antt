-- The numbers that a table gives to names are numbers of rules.
use Rattle.std.proofs.Common.{◌≡◌, ◌+◌, inl, inr, ℕ, suc, Bool, true, false, cond, List, [], ◌∷◌, Option, Some, None, slice_get, bytes_eq, refl, sym, ap, subst, ◌∙◌, arith}
use Rattle.std.specs.List.{position_from}
use Rattle.std.proofs.lemmas.Iterator.Adapters.{position_from-zero}
use Rattle.std.proofs.lemmas.Slice.Eq.{bytes_eq-Decides}
use Rattle.lalrpop_norm_names.specs.declared.table.Names.{Names}
use Rattle.lalrpop_norm_names.specs.Numbers.{first_place, number_in_table, IsNumbering}
use Rattle.lalrpop_norm_theory.specs.Rounds.{In, IsDistinct}
use Rattle.lalrpop_norm_model.proofs.LevelLemmas.{at_in}
use Rattle.lalrpop_norm_tyinfer_steps.proofs.NeedLemmas.{one_place}
use Rattle.lalrpop_norm_tyinfer_steps.specs.Needs.{AreRuleNumbers}

-- the first index of a name, counted from i
abbrev place_from : List ℕ → ℕ → List (List ℕ) → Option ℕ
place_from n i names = position_from (λ stands. bytes_eq stands n) i names

module _ (n m : List ℕ) (names : List (List ℕ)) (i : ℕ) where
  stands_case : (k : ℕ) → (place_from n (i + 1) names ≡ Some k → (j : ℕ) × (k ≡ i + 1 + j) × (slice_get names j ≡ Some n)) → (b : Bool) → bytes_eq m n ≡ b →
      cond b (Some i) (place_from n (i + 1) names) ≡ Some k → (j : ℕ) × (k ≡ i + j) × (slice_get (m ∷ names) j ≡ Some n)
  stands_case k later true is e = let here : i ≡ k = cc in (0, omega arith, ap Some ((bytes_eq-Decides m n).0 is))
  stands_case k later false is e = let r = later e in let at = r.1 in (suc r.0, omega arith, r.2)

  lacks_case : (place_from n (i + 1) names ≡ None → In n names → ⊥) → (b : Bool) → bytes_eq m n ≡ b → cond b (Some i) (place_from n (i + 1) names) ≡ None → In n (m ∷ names) → ⊥
  lacks_case later true is e h = absurd (cc e)
  lacks_case later false is e (inl same) = let equal : bytes_eq m n ≡ true = (bytes_eq-Decides m n).1 (sym same) in absurd cc
  lacks_case later false is e (inr h) = later e h

stands_at : (n : List ℕ) (names : List (List ℕ)) (i k : ℕ) → place_from n i names ≡ Some k → (j : ℕ) × (k ≡ i + j) × (slice_get names j ≡ Some n)
stands_at n [] i k e = absurd (cc e)
stands_at n (m ∷ names) i k e = stands_case n m names i k (λ f. stands_at n names (i + 1) k f) (bytes_eq m n) refl e

lacks : (n : List ℕ) (names : List (List ℕ)) (i : ℕ) → place_from n i names ≡ None → In n names → ⊥
lacks n [] i e h = absurd h
lacks n (m ∷ names) i e h = lacks_case n m names i (λ f g. lacks n names (i + 1) f g) (bytes_eq m n) refl e h

first_from : (names : List (List ℕ)) (d : Names) → IsNumbering names d → (n : List ℕ) → number_in_table d n ≡ place_from n 0 names
first_from names d is n = is n ∙ position_from-zero (λ stands. bytes_eq stands n) names

pub numbering_is : (names : List (List ℕ)) (d : Names) → IsNumbering names d → AreRuleNumbers (number_in_table d) names
numbering_is names d is = record {
  right = λ n k e.
      let r = stands_at n names 0 k (sym (first_from names d is n) ∙ e) in
      let at = r.1 in
      let here : r.0 ≡ k = omega arith in
      subst (λ j. slice_get names j ≡ Some n) here r.2;
  all = λ n e h. lacks n names 0 (sym (first_from names d is n) ∙ e) h;
}

module _ (number : List ℕ → Option ℕ) (names : List (List ℕ)) (are : AreRuleNumbers number names) (distinct : IsDistinct names) (n : List ℕ) where
  stands : (k : ℕ) → place_from n 0 names ≡ Some k → slice_get names k ≡ Some n
  stands k e =
      let r = stands_at n names 0 k e in
      let at = r.1 in
      let here : r.0 ≡ k = omega arith in
      subst (λ j. slice_get names j ≡ Some n) here r.2

  same_number : (o p : Option ℕ) → number n ≡ o → place_from n 0 names ≡ p → o ≡ p
  same_number None None e f = refl
  same_number None (Some j) e f = absurd (are.all n e (at_in names j n (stands j f)))
  same_number (Some k) None e f = absurd (lacks n names 0 f (at_in names k n (are.right n k e)))
  same_number (Some k) (Some j) e f = ap Some (one_place names n k j distinct (are.right n k e) (stands j f))

  -- a name that occurs once has its index as its number
  pub number_is_place : number n ≡ first_place names n
  number_is_place = same_number (number n) (place_from n 0 names) refl refl ∙ sym (position_from-zero (λ stands. bytes_eq stands n) names)
