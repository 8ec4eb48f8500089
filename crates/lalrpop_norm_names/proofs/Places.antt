-- The first index of a name in a list that is read from its end.
use Rattle.std.proofs.Common.{◌≡◌, ◌<◌, ◌+◌, ℕ, List, [], ◌∷◌, refl, Option, Some, None, cond, drop, length, get_or, ap, sym, bytes_eq, arith}
use Rattle.std.specs.List.{position_from}
use Rattle.std.proofs.lemmas.List.{at_drop_more, drop_all}
use Rattle.std.proofs.lemmas.Iterator.Adapters.{position_from-zero}
use Rattle.lalrpop_norm_names.specs.Numbers.{first_place, number_by}

-- the first index of a name from an index on
abbrev pub place_from : List (List ℕ) → ℕ → List ℕ → Option ℕ
place_from names i name = position_from (λ stands. bytes_eq stands name) i (drop i names)

pub place_at_end : (names : List (List ℕ)) (name : List ℕ) → place_from names (length names) name ≡ None
place_at_end names name = ap (position_from (λ stands. bytes_eq stands name) (length names)) (drop_all (length names) names (omega arith))

pub place_before : (names : List (List ℕ)) (i : ℕ) (d name : List ℕ) → i < length names →
    place_from names i name ≡ cond (bytes_eq (get_or names i d) name) (Some i) (place_from names (i + 1) name)
place_before names i d name within = at_drop_more (position_from (λ stands. bytes_eq stands name) i) names i d within

pub place_from_start : (names : List (List ℕ)) (name : List ℕ) → place_from names 0 name ≡ first_place names name
place_from_start names name = sym (position_from-zero (λ stands. bytes_eq stands name) names)

-- ---- few names, or none

pub number_without : (names : List (List ℕ)) (number : Option ℕ) (name : List ℕ) → length names ≡ 0 → number_by names number name ≡ number
number_without [] number name none = refl
number_without (first ∷ others) number name none = absurd (cc)

pub number_among : (names : List (List ℕ)) (number : Option ℕ) (name : List ℕ) → (length names ≡ 0 → ⊥) → number_by names number name ≡ first_place names name
number_among [] number name some = absurd (some refl)
number_among (first ∷ others) number name some = refl
