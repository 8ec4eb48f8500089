-- Levels and associativities (`side`) in the subject's own terms: which levels a rule has, and where the level and the
-- associativity of an index are stated.
use Rattle.std.specs.Prelude.{◌≡◌, ℕ, ◌<◌, ◌≤◌, List, [], ◌∷◌, Option, Some, None, option_map}
use Rattle.std.specs.Prelude.{option_and_then, unwrap_or, is_some, slice_get, if◌then◌else◌}
use Rattle.lalrpop_norm_theory.specs.Rounds.{In}
use Rattle.lalrpop_norm_tree.specs.Accessors.{or_else}
use Rattle.lalrpop_norm_tree.specs.Items.{AlternativeData}
use Rattle.lalrpop_norm_model.specs.Enabled.{PlacedAlternatives}
use Rattle.lalrpop_norm_model.specs.Levels.{Side, every, Leveled, level_stated, side_stated}

-- each number is less than all that follow it
abbrev pub IsRising : List ℕ → Type 0
IsRising [] = Unit {0}
IsRising (l ∷ ls) = ((m : ℕ) → In m ls → l < m) × IsRising ls

-- one of the alternatives has the level
abbrev pub HasLevel : List (Option Leveled) → ℕ → Type 0
HasLevel ps l = (a : Leveled) × In (Some a) ps × (a.level ≡ l)

-- m is the level below l: a lower level of the rule, with none of its levels between
abbrev pub IsBelow : List (Option Leveled) → ℕ → ℕ → Type 0
IsBelow ps l m = HasLevel ps m × (m < l) × ((n : ℕ) → HasLevel ps n → m < n → n < l → ⊥)

-- m is a level of the rule and none is higher
abbrev pub IsHighest : List (Option Leveled) → ℕ → Type 0
IsHighest ps m = HasLevel ps m × ((n : ℕ) → HasLevel ps n → n ≤ m)

-- what is stated at index k; nothing past the end
abbrev pub level_stated_at : PlacedAlternatives → ℕ → Option ℕ
level_stated_at ps k = option_and_then level_stated (slice_get ps k)

abbrev pub side_stated_at : PlacedAlternatives → ℕ → Option Side
side_stated_at ps k = option_and_then side_stated (slice_get ps k)

-- the level is stated at an index at or before k, and none between that index and k, k included
abbrev pub IsStatedLevel : PlacedAlternatives → ℕ → ℕ → Type 0
IsStatedLevel ps k l =
    (j : ℕ) × (j ≤ k) × (level_stated_at ps j ≡ Some l)
    × ((i : ℕ) → j < i → i ≤ k → level_stated_at ps i ≡ None)

-- no index at or before k states a level
abbrev pub NoLevelIsStated : PlacedAlternatives → ℕ → Type 0
NoLevelIsStated ps k = (i : ℕ) → i ≤ k → level_stated_at ps i ≡ None

-- the associativity is stated at an index at or before k, and neither an associativity nor a level between that index and k, k
-- included
abbrev pub IsStatedSide : PlacedAlternatives → ℕ → Side → Type 0
IsStatedSide ps k s =
    (j : ℕ) × (j ≤ k) × (side_stated_at ps j ≡ Some s)
    × ((i : ℕ) → j < i → i ≤ k → (side_stated_at ps i ≡ None) × (level_stated_at ps i ≡ None))

-- each index at or before k that states an associativity has an index behind it, at or before k, that states a level
abbrev pub NoSideIsStated : PlacedAlternatives → ℕ → Type 0
NoSideIsStated ps k =
    (j : ℕ) (s : Side) → j ≤ k → side_stated_at ps j ≡ Some s → (i : ℕ) × (l : ℕ) × (j < i) × (i ≤ k)
    × (level_stated_at ps i ≡ Some l)

-- ---- from index to index

-- what is stated up to an index, from what was stated before it: a level stated at the index starts anew, with only the
-- associativity of that index; any other index keeps what it does not state
abbrev pub level_after : Option ℕ → Option AlternativeData → Option ℕ
level_after level p = or_else (level_stated p) level

abbrev pub side_after : Option Side → Option AlternativeData → Option Side
side_after side p = if is_some (level_stated p) then side_stated p else or_else (side_stated p) side

abbrev pub with_stated : Option ℕ → Option Side → AlternativeData → Leveled
with_stated level side a = record { level = unwrap_or level 0; side = unwrap_or side every; alternative = a }

-- the indices, where that much was stated before the first of them
abbrev pub handed_on : Option ℕ → Option Side → PlacedAlternatives → List (Option Leveled)
handed_on level side [] = []
handed_on level side (p ∷ ps) =
    option_map (with_stated (level_after level p) (side_after side p)) p
    ∷ handed_on (level_after level p) (side_after side p) ps
