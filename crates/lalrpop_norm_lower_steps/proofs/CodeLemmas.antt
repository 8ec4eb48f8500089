-- Codes and their first `<>`.
use Rattle.std.proofs.Common.{◌≡◌, ◌∙◌, ℕ, Bool, true, false, cond, List, [], ◌∷◌, ◌++◌, drop, Option, Some, None, refl, sym, ap, codes, option_map, eqb, subst}
use Rattle.std.proofs.lemmas.Bool.Decides.{Decides-eqb}
use Rattle.lalrpop_norm_common.specs.Braces.{is_slot, around_slot}
use Rattle.lalrpop_norm_theory.proofs.BoolLemmas.{both_true}
use Rattle.lalrpop_norm_theory.proofs.ListLemmas.{some_inner}

-- a slot at the front
pub slot_front : (s : List ℕ) → is_slot s ≡ true → s ≡ codes "<>" ++ drop 2 s
slot_front [] h = cc
slot_front (a ∷ []) h = cc
slot_front (a ∷ b ∷ rest) h =
    let hs = both_true (eqb a 60) (eqb b 62) h in
    let first : a ≡ 60 = (Decides-eqb a 60).0 hs.0 in
    let second : b ≡ 62 = (Decides-eqb b 62).0 hs.1 in
    cc

pub not_in_front : (b : ℕ) (q rest : List ℕ) → is_slot (b ∷ (q ++ rest)) ≡ false → is_slot (b ∷ q) ≡ false
not_in_front b [] rest h = refl
not_in_front b (c ∷ q) rest h = h

abbrev IsAround : List ℕ → List ℕ × List ℕ → Type 0
IsAround s p = (s ≡ p.0 ++ (codes "<>" ++ p.1)) × (around_slot p.0 ≡ None)

-- what the code is around its first `<>`
pub first_slot : (s : List ℕ) (p : List ℕ × List ℕ) → around_slot s ≡ Some p → IsAround s p
first_slot [] p h = cc
first_slot (b ∷ bs) p h = by_test (is_slot (b ∷ bs)) refl h (first_slot bs)
  where
    by_rest : is_slot (b ∷ bs) ≡ false → (o : Option (List ℕ × List ℕ)) → around_slot bs ≡ o → option_map (λ p. (b ∷ p.0, p.1)) o ≡ Some p → ((q : List ℕ × List ℕ) → around_slot bs ≡ Some q → IsAround bs q) → IsAround (b ∷ bs) p
    by_rest away None e h deeper = cc
    by_rest away (Some q) e h deeper =
        let there = deeper q e in
        let apart : is_slot (b ∷ q.0) ≡ false = not_in_front b q.0 (codes "<>" ++ q.1) (ap (λ (xs : List ℕ). is_slot (b ∷ xs)) (sym there.0) ∙ away) in
        subst (IsAround (b ∷ bs)) (some_inner (b ∷ q.0, q.1) p h) (ap (λ (xs : List ℕ). b ∷ xs) there.0, rw (apart, there.1) refl)

    by_test : (t : Bool) → is_slot (b ∷ bs) ≡ t → cond t (Some ([], drop 1 bs)) (option_map (λ p. (b ∷ p.0, p.1)) (around_slot bs)) ≡ Some p → ((q : List ℕ × List ℕ) → around_slot bs ≡ Some q → IsAround bs q) → IsAround (b ∷ bs) p
    by_test true e h deeper = subst (IsAround (b ∷ bs)) (some_inner ([], drop 1 bs) p h) (slot_front (b ∷ bs) e, refl)
    by_test false e h deeper = by_rest e (around_slot bs) refl h deeper
