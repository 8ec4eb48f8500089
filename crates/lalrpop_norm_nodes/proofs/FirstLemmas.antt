-- The first symbol of a text, once one more is put.
use Rattle.std.proofs.Common.{◌≡◌, ◌⊎◌, inl, inr, ℕ, suc, zero, ◌<◌, List, [], ◌∷◌, ◌++◌, length, refl, sym, ap, ◌∙◌, Bool, true, false, Option, Some, None, cond, bytes_eq, get_or, arith, slice_get, option_and_then, subst}
use Rattle.std.proofs.lemmas.List.{length-append}
use Rattle.std.proofs.lemmas.Slice.Eq.{bytes_eq-Decides}
use Rattle.lalrpop_norm_tree.specs.Symbols.{Part}
use Rattle.lalrpop_norm_tree.specs.SymbolTexts.{part_text}
use Rattle.lalrpop_norm_nodes.specs.Meeting.{first_with_text}

pub first_more : (t : List ℕ) (seen : List Part) (x : Part) → (part_text x ≡ t → ⊥) → first_with_text t (seen ++ x ∷ []) ≡ first_with_text t seen
first_more t [] x n = rw (false_of (bytes_eq (part_text x) t) (λ e. n ((bytes_eq-Decides (part_text x) t).0 e))) refl
  where
    false_of : (b : Bool) → (b ≡ true → ⊥) → b ≡ false
    false_of true n = absurd (n refl)
    false_of false n = refl
first_more t (y ∷ seen) x n = ap (λ o. cond (bytes_eq (part_text y) t) (Some y) o) (first_more t seen x n)

pub first_at : (seen : List Part) (x : Part) → first_with_text (part_text x) seen ≡ None → first_with_text (part_text x) (seen ++ x ∷ []) ≡ Some x
first_at [] x e = rw ((bytes_eq-Decides (part_text x) (part_text x)).1 refl) refl
first_at (y ∷ seen) x e =
    cases (bytes_eq (part_text y) (part_text x)) (first_with_text (part_text x) seen) (first_with_text (part_text x) (seen ++ x ∷ [])) e (λ h. first_at seen x h)
  where
    cases : (b : Bool) (o p : Option Part) → cond b (Some y) o ≡ None → (o ≡ None → p ≡ Some x) → cond b (Some y) p ≡ Some x
    cases true o p e f = cc
    cases false o p e f = f e

pub text_cases : (s t : List ℕ) → (s ≡ t) ⊎ (s ≡ t → ⊥)
text_cases s t = by (bytes_eq s t) refl
  where
    by : (b : Bool) → bytes_eq s t ≡ b → (s ≡ t) ⊎ (s ≡ t → ⊥)
    by true e = inl ((bytes_eq-Decides s t).0 e)
    by false e = inr (λ q. let h : bytes_eq s t ≡ true = (bytes_eq-Decides s t).1 q in cc)
