-- The order of keys.
use Rattle.std.specs.Prelude.{List, [], ◌∷◌, ℕ, Bool, true, false, ◌&&◌, Option, Some, None}
use Rattle.std.specs.Ordering.{nat_cmp, match_ordering}
use Rattle.std.specs.Cmp.Lexicographic.{slice_cmp}

-- the key k comes after the bound, if there is one
abbrev pub is_above : Option (List ℕ) → List ℕ → Bool
is_above None k = true
is_above (Some l) k = match_ordering (slice_cmp nat_cmp l k) true false false

-- each key comes after the one before it, the first after the bound, if there is one
abbrev pub rise_above : Option (List ℕ) → List (List ℕ) → Bool
rise_above b [] = true
rise_above b (k ∷ ks) = is_above b k && rise_above (Some k) ks
