-- The first answer along a list.
use Rattle.std.proofs.Common.{◌≡◌, ℕ, ◌+◌, ◌<◌, List, [], ◌∷◌, ◌++◌, suc, length, map, take, drop, get_or, Option, Some, None, refl, ap, sym, ◌∙◌}
use Rattle.std.proofs.Math.Seq.{drop-cons}
use Rattle.std.proofs.lemmas.List.{take-append-drop, take_more}
use Rattle.lalrpop_norm_tree.specs.Accessors.{or_else, first_of}

pub or_else_assoc : {A : Type 0} (a b c : Option A) → or_else (or_else a b) c ≡ or_else a (or_else b c)
or_else_assoc (Some x) b c = refl
or_else_assoc None b c = refl

pub first_of-append : {A B : Type 0} (f : A → Option B) (xs ys : List A) → first_of f (xs ++ ys) ≡ or_else (first_of f xs) (first_of f ys)
first_of-append f [] ys = refl
first_of-append f (x ∷ xs) ys = ap (or_else (f x)) (first_of-append f xs ys) ∙ sym (or_else_assoc (f x) (first_of f xs) (first_of f ys))

-- the first i elements have no answer, and the next one has
pub first_found : {A B : Type 0} (f : A → Option B) (xs : List A) (i : ℕ) (d : A) (b : B) → i < length xs → first_of f (take i xs) ≡ None → f (get_or xs i d) ≡ Some b → first_of f xs ≡ Some b
first_found f xs i d b h none found =
    ap (first_of f) (sym (take-append-drop i xs))
    ∙ first_of-append f (take i xs) (drop i xs)
    ∙ ap (λ o. or_else o (first_of f (drop i xs))) none
    ∙ ap (first_of f) (drop-cons xs i d h)
    ∙ ap (λ o. or_else o (first_of f (drop (suc i) xs))) found

-- nor has the next one
pub first_missing : {A B : Type 0} (f : A → Option B) (xs : List A) (i : ℕ) (d : A) → i < length xs → first_of f (take i xs) ≡ None → f (get_or xs i d) ≡ None → first_of f (take (i + 1) xs) ≡ None
first_missing f xs i d h none missing =
    ap (first_of f) (take_more xs i d h)
    ∙ first_of-append f (take i xs) (get_or xs i d ∷ [])
    ∙ ap (λ o. or_else o (or_else (f (get_or xs i d)) None)) none
    ∙ ap (λ o. or_else o None) missing

-- the first answer along what v shows of the elements
pub first_of-map : {A D B : Type 0} (f : D → Option B) (v : A → D) (xs : List A) → first_of f (map v xs) ≡ first_of (λ x. f (v x)) xs
first_of-map f v [] = refl
first_of-map f v (x ∷ xs) = ap (or_else (f (v x))) (first_of-map f v xs)
