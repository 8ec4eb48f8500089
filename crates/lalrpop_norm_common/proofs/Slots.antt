-- Where `<>` is found.
use Rattle.std.proofs.Common.{◌≡◌, ℕ, ◌<◌, ◌≤◌, Bool, true, false, eqb, zero, suc, ◌&&◌, List, [], ◌∷◌, ◌++◌, Some, None, Decides, length, take, drop, option_map, codes, refl, sym, ap, subst, arith}
use Rattle.std.proofs.lemmas.Bool.Decides.{Decides-eqb}
use Rattle.std.specs.Str.Pattern.{LacksTextAt}
use Rattle.lalrpop_norm_common.specs.Braces.{is_slot, around_slot}

apart : (x y : Bool) (P Q : Type 0) → Decides x P → Decides y Q → (P → Q → ⊥) → (x && y) ≡ false
apart true true P Q p q h = absurd (h (p.0 refl) (q.0 refl))
apart true false P Q p q h = refl
apart false y P Q p q h = refl

not_slot : (s : List ℕ) → LacksTextAt (codes "<>") s 0 → is_slot s ≡ false
not_slot [] h = refl
not_slot (a ∷ []) h = refl
not_slot (a ∷ b ∷ rest) h = apart (eqb a 60) (eqb b 62) (a ≡ 60) (b ≡ 62) (Decides-eqb a 60) (Decides-eqb b 62) (λ p q. h rest cc)

slot_here : (s rest : List ℕ) → s ≡ 60 ∷ 62 ∷ rest → around_slot s ≡ Some ([], rest)
slot_here s rest e = let P : List ℕ → Type 0 = λ t. around_slot t ≡ Some ([], rest) in subst P (sym e) refl

pub slot_found : (s : List ℕ) (i : ℕ) (rest : List ℕ) → ((k : ℕ) → k < i → LacksTextAt (codes "<>") s k) → drop i s ≡ codes "<>" ++ rest → around_slot s ≡ Some (take i s, rest)
slot_found s zero rest lacks e = slot_here s rest e
slot_found [] (suc i) rest lacks e = cc
slot_found (b ∷ bs) (suc i) rest lacks e =
    rw (not_slot (b ∷ bs) (lacks 0 (omega arith))) (ap (option_map (λ p. (b ∷ p.0, p.1))) (slot_found bs i rest (λ k lt. lacks (suc k) (omega arith)) e))

pub slot_missing : (s : List ℕ) → ((k : ℕ) → k ≤ length s → LacksTextAt (codes "<>") s k) → around_slot s ≡ None
slot_missing [] lacks = refl
slot_missing (b ∷ bs) lacks =
    rw (not_slot (b ∷ bs) (lacks 0 (omega arith))) (ap (option_map (λ p. (b ∷ p.0, p.1))) (slot_missing bs (λ k le. lacks (suc k) (omega arith))))
