-- The texts of several things, one after another.
use Rattle.std.proofs.Common.{◌≡◌, ℕ, List, [], ◌∷◌, ◌++◌, ◌≤◌, ◌<◌, ◌+◌, length, get_or, take, map, refl, ap, sym, ◌∙◌}
use Rattle.std.proofs.lemmas.List.{take_all, take_more, flat_map_more}
use Rattle.std.specs.List.{flat_map, zip}
use Rattle.lalrpop_norm_tree_names.specs.Texts.{joined}
use Rattle.lalrpop_norm_tree_parts.proofs.KnownTextLemmas.{map_twice}

texts_of_each : {A : Type 0} (text : A → List ℕ) (separator : List ℕ) (xs : List A) → flat_map (λ x. separator ++ text x) xs ≡ flat_map (λ u. separator ++ u) (map text xs)
texts_of_each text separator [] = refl
texts_of_each text separator (x ∷ xs) = ap (λ t. (separator ++ text x) ++ t) (texts_of_each text separator xs)

-- the first one's text, and then the others'
joined_each : {A : Type 0} (text : A → List ℕ) (separator : List ℕ) (xs : List A) (x : A) (others : List A) (i : ℕ) → xs ≡ x ∷ others → length others ≤ i
    → text x ++ flat_map (λ t. separator ++ text t) (take i others) ≡ joined separator (map text xs)
joined_each text separator xs x others i e h =
    rw (e, take_all i others h) (ap (λ t. text x ++ t) (texts_of_each text separator others))

-- the same of things that are seen as others
pub joined_each_seen : {A B : Type 0} (view : A → B) (text : B → List ℕ) (separator : List ℕ) (xs : List A) (x : A) (others : List A) (i : ℕ) → xs ≡ x ∷ others → length others ≤ i
    → text (view x) ++ flat_map (λ t. separator ++ text (view t)) (take i others) ≡ joined separator (map text (map view xs))
joined_each_seen view text separator xs x others i e h =
    joined_each (λ a. text (view a)) separator xs x others i e h ∙ ap (joined separator) (map_twice text view xs)

-- the first pair's text, and then the others'
pub joined_pairs : {A B C D : Type 0} (f : A → C) (g : B → D) (text : C × D → List ℕ) (separator : List ℕ) (xs : List A) (ys : List B) (x : A) (others : List A) (y : B) (rest : List B)
    → xs ≡ x ∷ others → ys ≡ y ∷ rest → text (f x, g y) ++ flat_map (λ p. separator ++ text p) (zip (map f others) (map g rest)) ≡ joined separator (map text (zip (map f xs) (map g ys)))
joined_pairs f g text separator xs ys x others y rest e h =
    rw (e, h) (ap (λ t. text (f x, g y) ++ t) (texts_of_each text separator (zip (map f others) (map g rest))))

-- one text more
pub one_more_text : {A : Type 0} (text : A → List ℕ) (xs : List A) (i : ℕ) (x : A) → i < length xs → x ≡ get_or xs i x → flat_map text (take i xs) ++ text x ≡ flat_map text (take (i + 1) xs)
one_more_text text xs i x within is =
    flat_map_more text [] (take i xs) x ∙ ap (λ ys. flat_map text ys) (ap (λ y. take i xs ++ y ∷ []) is ∙ sym (take_more xs i x within))
