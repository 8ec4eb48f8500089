-- Lists.
use Rattle.std.proofs.Common.{◌≡◌, ℕ, zero, suc, ◌<◌, List, [], ◌∷◌, ◌++◌, length, map, reverse, Some, inl, inr, refl, sym, ap, ap₂, ◌∙◌, subst, append_assoc, arith}
use Rattle.std.specs.Prelude.{flat_map, slice_get}
use Rattle.std.proofs.lemmas.List.{map-append}
use mathlib.Core.List.{reverse-cons}
use Rattle.lalrpop_norm_theory.specs.Rounds.{In, IsDistinct}
use Rattle.lalrpop_norm_theory.proofs.RoundsLemmas.{in_right}

pub flat_append : {A B : Type 0} (f : A → List B) (xs ys : List A) → flat_map f (xs ++ ys) ≡ flat_map f xs ++ flat_map f ys
flat_append f [] ys = refl
flat_append f (x ∷ xs) ys = ap (λ zs. f x ++ zs) (flat_append f xs ys) ∙ sym (append_assoc (f x) (flat_map f xs) (flat_map f ys))

pub flat_same : {A B : Type 0} (f h : A → List B) → ((x : A) → f x ≡ h x) → (xs : List A) → flat_map f xs ≡ flat_map h xs
flat_same f h e [] = refl
flat_same f h e (x ∷ xs) = ap₂ (λ ys zs. ys ++ zs) (e x) (flat_same f h e xs)

pub get_some : {A : Type 0} (xs : List A) (i : ℕ) → i < length xs → (y : A) × (slice_get xs i ≡ Some y)
get_some [] i h = absurd (omega arith)
get_some (x ∷ xs) zero h = (x, refl)
get_some (x ∷ xs) (suc i) h = get_some xs i (omega arith)

pub some_inner : {A : Type 0} (x y : A) → Some x ≡ Some y → x ≡ y
some_inner x y h = cc

pub in_one : {A : Type 0} (x y : A) → In x (y ∷ []) → x ≡ y
in_one x y (inl e) = e
in_one x y (inr i) = absurd i

pub map_reverse : {A B : Type 0} (view : A → B) (xs : List A) → map view (reverse xs) ≡ reverse (map view xs)
map_reverse view [] = refl
map_reverse view (x ∷ xs) = rw (reverse-cons x xs, reverse-cons (view x) (map view xs), map-append view (reverse xs) (x ∷ []), map_reverse view xs) refl

pub distinct_right : {A : Type 0} (xs ys : List A) → IsDistinct (xs ++ ys) → IsDistinct ys
distinct_right [] ys d = d
distinct_right (x ∷ xs) ys d = distinct_right xs ys d.1

pub distinct_apart : {A : Type 0} (xs ys : List A) → IsDistinct (xs ++ ys) → (x : A) → In x xs → In x ys → ⊥
distinct_apart [] ys h x i j = i
distinct_apart (y ∷ xs) ys h x (inl e) j = h.0 (in_right y xs ys (subst (λ z. In z ys) e j))
distinct_apart (y ∷ xs) ys h x (inr i) j = distinct_apart xs ys h.1 x i j
