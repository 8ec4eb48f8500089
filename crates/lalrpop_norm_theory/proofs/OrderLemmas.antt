-- What is fresh is in the order in which it is first reached.
use Rattle.std.proofs.Common.{◌≡◌, inl, inr, ◌<◌, ℕ, zero, suc, List, [], ◌∷◌, Bool, refl, sym, subst, arith}
use Rattle.std.specs.Prelude.{slice_get, Some}
use Rattle.std.proofs.lemmas.Bool.{cases_Bool}
use Rattle.lalrpop_norm_theory.specs.Rounds.{In, is_in, fresh_of, IsFirstAt, IsInOrderOf, IsTest}
use Rattle.lalrpop_norm_theory.proofs.RoundsLemmas.{fresh_met, is_in_sound}

pub in_at : {A : Type 0} (x : A) (xs : List A) (p : ℕ) → slice_get xs p ≡ Some x → In x xs
in_at x [] p e = absurd (grind arith)
in_at x (y ∷ xs) zero e = inl (let same : y ≡ x = cc e in sym same)
in_at x (y ∷ xs) (suc p) e = inr (in_at x xs p e)

-- what is first reached later than the head is first reached in the rest
rest_first : {A : Type 0} (x y : A) (xs : List A) (i : ℕ) → IsFirstAt x (y ∷ xs) (suc i) → IsFirstAt x xs i
rest_first x y xs i (at, none) = (at, λ j l e. none (suc j) (omega arith) e)

-- what differs from the head is reached later
met_later : {A : Type 0} (x y : A) (xs : List A) (i : ℕ) → (x ≡ y → ⊥) → IsFirstAt x (y ∷ xs) i →
    (j : ℕ) × (i ≡ suc j) × IsFirstAt x xs j
met_later x y xs zero n (at, none) = absurd (n (let same : y ≡ x = cc at in sym same))
met_later x y xs (suc i) n h = (i, refl, rest_first x y xs i h)

-- the head itself is reached first
head_first : {A : Type 0} (x : A) (xs : List A) (i : ℕ) → IsFirstAt x (x ∷ xs) i → i ≡ 0
head_first x xs zero h = refl
head_first x xs (suc i) (at, none) = absurd (none 0 (omega arith) refl)

new_is_other : {A : Type 0} (same : A → A → Bool) → IsTest same → (z w : A) (seen met : List A) (r : ℕ) →
    slice_get (fresh_of same (z ∷ seen) met) r ≡ Some w → w ≡ z → ⊥
new_is_other same T z w seen met r e is = (fresh_met same T w (z ∷ seen) met (in_at w _ r e)).1 (inl is)

-- where the head was seen
old_in_order : {A : Type 0} (same : A → A → Bool) → IsTest same → (z : A) (seen met : List A) → In z seen →
    IsInOrderOf (fresh_of same seen met) met → IsInOrderOf (fresh_of same seen met) (z ∷ met)
old_in_order {A} same T z seen met s h p q i j x y a b f g l =
    let (i', is, f') = met_later x z met i (other x p a) f in
    let (j', js, g') = met_later y z met j (other y q b) g in
    let less : i' < j' = h p q i' j' x y a b f' g' l in
    omega arith
  where
    other : (w : A) (r : ℕ) → slice_get (fresh_of same seen met) r ≡ Some w → w ≡ z → ⊥
    other w r e is = (fresh_met same T w seen met (in_at w _ r e)).1 (subst (λ (v : A). In v seen) (sym is) s)

-- where the head is new
new_in_order : {A : Type 0} (same : A → A → Bool) → IsTest same → (z : A) (seen met : List A) →
    IsInOrderOf (fresh_of same (z ∷ seen) met) met → IsInOrderOf (z ∷ fresh_of same (z ∷ seen) met) (z ∷ met)
new_in_order {A} same T z seen met h p zero i j x y a b f g l = absurd (omega arith)
new_in_order {A} same T z seen met h zero (suc q) i j x y a b f g l =
    let at : z ≡ x = cc a in
    let first : i ≡ 0 = head_first z met i (subst (λ (w : A). IsFirstAt w (z ∷ met) i) (sym at) f) in
    let (j', js, g') = met_later y z met j (new_is_other same T z y seen met q b) g in
    omega arith
new_in_order {A} same T z seen met h (suc p) (suc q) i j x y a b f g l =
    let (i', is, f') = met_later x z met i (new_is_other same T z x seen met p a) f in
    let (j', js, g') = met_later y z met j (new_is_other same T z y seen met q b) g in
    let less : i' < j' = h p q i' j' x y a b f' g' (omega arith) in
    omega arith

pub fresh_in_order : {A : Type 0} (same : A → A → Bool) → IsTest same → (seen met : List A) → IsInOrderOf (fresh_of same seen met) met
fresh_in_order same T seen [] = (λ p q i j x y a b f g l. absurd (in_at x [] p a))
fresh_in_order same T seen (z ∷ met) = elim (cases_Bool (is_in same z seen)) [
  | inl e ↦ rw e (old_in_order same T z seen met (is_in_sound same T z seen e) (fresh_in_order same T seen met))
  | inr e ↦ rw e (new_in_order same T z seen met (fresh_in_order same T (z ∷ seen) met))
]
