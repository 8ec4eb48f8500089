-- The level and the associativity of an index are those stated last.
use Rattle.std.proofs.Common.{◌≡◌, ◌⊎◌, inl, inr, ℕ, zero, suc, ◌+◌, ◌<◌, ◌≤◌, List, [], ◌∷◌, map, take, Option, Some, None, refl, sym, ap, ◌∙◌, arith}
use Rattle.std.specs.Prelude.{slice_get, option_map, option_and_then, unwrap_or, is_some, if◌then◌else◌}
use Rattle.lalrpop_norm_tree.specs.Accessors.{or_else}
use Rattle.lalrpop_norm_tree.specs.Items.{AlternativeData}
use Rattle.lalrpop_norm_model.specs.Enabled.{PlacedAlternatives}
use Rattle.lalrpop_norm_model.specs.Levels.{Side, every, level_stated, side_stated, last_stated, since_level, up_to, leveled_at, map_numbered}
use Rattle.lalrpop_norm_model.specs.Stated.{level_stated_at, side_stated_at, IsStatedLevel, NoLevelIsStated, IsStatedSide, NoSideIsStated}
use Rattle.lalrpop_norm_model.specs.Laws.{PlacesAreLeveled, LevelsAreStated, SidesAreStated}

-- ---- indices by number

pub numbered_at : {A B : Type 0} (f : ℕ → A → B) (j : ℕ) (xs : List A) (k : ℕ) → slice_get (map_numbered f j xs) k ≡ option_map (f (j + k)) (slice_get xs k)
numbered_at f j [] k = refl
numbered_at f j (x ∷ xs) zero = let same : j + 0 ≡ j = omega arith in rw same refl
numbered_at f j (x ∷ xs) (suc k) = let same : j + suc k ≡ suc j + k = omega arith in rw same (numbered_at f (suc j) xs k)

pub places_are_leveled : PlacesAreLeveled
places_are_leveled ps k = let same : 0 + k ≡ k = omega arith in numbered_at (leveled_at ps) 0 ps k ∙ ap (λ i. option_map (leveled_at ps i) (slice_get ps k)) same

taken_at : {A : Type 0} (n : ℕ) (xs : List A) (i : ℕ) → i < n → slice_get (take n xs) i ≡ slice_get xs i
taken_at zero xs i lt = absurd (omega arith)
taken_at (suc n) [] i lt = refl
taken_at (suc n) (x ∷ xs) zero lt = refl
taken_at (suc n) (x ∷ xs) (suc i) lt = taken_at n xs i (omega arith)

taken_within : {A B : Type 0} (f : A → Option B) (n : ℕ) (xs : List A) (i : ℕ) (v : B) → option_and_then f (slice_get (take n xs) i) ≡ Some v → i < n
taken_within f zero xs i v e = absurd (grind arith)
taken_within f (suc n) [] i v e = absurd (grind arith)
taken_within f (suc n) (x ∷ xs) zero v e = omega arith
taken_within f (suc n) (x ∷ xs) (suc i) v e = let less : i < n = taken_within f n xs i v e in omega arith

-- ---- the last one stated

-- v is what f says at an index, and f says nothing behind it
abbrev pub IsLast : {A B : Type 0} → (A → Option B) → List A → B → Type 0
IsLast f xs v = (j : ℕ) × (option_and_then f (slice_get xs j) ≡ Some v) × ((i : ℕ) → j < i → option_and_then f (slice_get xs i) ≡ None)

abbrev pub IsSilent : {A B : Type 0} → (A → Option B) → List A → Type 0
IsSilent f xs = (i : ℕ) → option_and_then f (slice_get xs i) ≡ None

abbrev LastOf : {A B : Type 0} → (A → Option B) → List A → Option B → Type 0
LastOf f xs None = IsSilent f xs
LastOf f xs (Some v) = IsLast f xs v

last_on : {A B : Type 0} (f : A → Option B) (x : A) (xs : List A) (o p : Option B) → f x ≡ p → LastOf f xs o → LastOf f (x ∷ xs) (or_else o p)
last_on f x xs (Some v) p e h = (suc h.0, h.1, later)
  where
    later : (i : ℕ) → suc h.0 < i → option_and_then f (slice_get (x ∷ xs) i) ≡ None
    later zero lt = absurd (omega arith)
    later (suc i) lt = h.2 i (omega arith)
last_on f x xs None (Some v) e h = (0, e, later)
  where
    later : (i : ℕ) → 0 < i → option_and_then f (slice_get (x ∷ xs) i) ≡ None
    later zero lt = absurd (omega arith)
    later (suc i) lt = h i
last_on f x xs None None e h = all
  where
    all : IsSilent f (x ∷ xs)
    all zero = e
    all (suc i) = h i

pub last_of : {A B : Type 0} (f : A → Option B) (xs : List A) → LastOf f xs (last_stated (map f xs))
last_of f [] = λ i. refl
last_of f (x ∷ xs) = last_on f x xs (last_stated (map f xs)) (f x) refl (last_of f xs)

-- ---- levels

-- what holds of the indices up to k holds of the indices
level_here : (ps : PlacedAlternatives) (k i : ℕ) → i ≤ k → level_stated_at (up_to k ps) i ≡ level_stated_at ps i
level_here ps k i le = ap (option_and_then level_stated) (taken_at (suc k) ps i (omega arith))

side_here : (ps : PlacedAlternatives) (k i : ℕ) → i ≤ k → side_stated_at (up_to k ps) i ≡ side_stated_at ps i
side_here ps k i le = ap (option_and_then side_stated) (taken_at (suc k) ps i (omega arith))

level_by : (ps : PlacedAlternatives) (k : ℕ) (o : Option ℕ) → LastOf level_stated (up_to k ps) o →
    IsStatedLevel ps k (unwrap_or o 0) ⊎ (NoLevelIsStated ps k × (unwrap_or o 0 ≡ 0))
level_by ps k None h = inr ((λ i le. sym (level_here ps k i le) ∙ h i), refl)
level_by ps k (Some v) h =
    let within : h.0 < suc k = taken_within level_stated (suc k) ps h.0 v h.1 in
    let le : h.0 ≤ k = omega arith in
    inl (h.0, le, sym (level_here ps k h.0 le) ∙ h.1, λ i lt most. sym (level_here ps k i most) ∙ h.2 i lt)

pub levels_are_stated : LevelsAreStated
levels_are_stated ps k = level_by ps k (last_stated (map level_stated (up_to k ps))) (last_of level_stated (up_to k ps))

-- ---- associativities

-- the last associativity since the last level; if there is none, a level is behind each associativity
abbrev SideOf : PlacedAlternatives → Option Side → Type 0
SideOf ps (Some s) =
    (j : ℕ) × (side_stated_at ps j ≡ Some s) × ((i : ℕ) → j < i → (side_stated_at ps i ≡ None) × (level_stated_at ps i ≡ None))
SideOf ps None = (j : ℕ) (s : Side) → side_stated_at ps j ≡ Some s → (i : ℕ) × (l : ℕ) × (j < i) × (level_stated_at ps i ≡ Some l)

-- a level is stated further on: what is before it does not matter
side_on : (p : Option AlternativeData) (ps : PlacedAlternatives) (l : ℕ) → IsLast level_stated ps l → (o : Option Side) → SideOf ps o → SideOf (p ∷ ps) o
side_on p ps l last (Some s) h = (suc h.0, h.1, later)
  where
    later : (i : ℕ) → suc h.0 < i → (side_stated_at (p ∷ ps) i ≡ None) × (level_stated_at (p ∷ ps) i ≡ None)
    later zero lt = absurd (omega arith)
    later (suc i) lt = h.2 i (omega arith)
side_on p ps l last None h = all
  where
    all : (j : ℕ) (s : Side) → side_stated_at (p ∷ ps) j ≡ Some s → (i : ℕ) × (m : ℕ) × (j < i) × (level_stated_at (p ∷ ps) i ≡ Some m)
    all zero s e = (suc last.0, l, omega arith, last.1)
    all (suc j) s e =
        let (i, m, lt, at) = h j s e in (suc i, m, omega arith, at)

-- no level is stated after the first index: all associativities count
side_first : (p : Option AlternativeData) (ps : PlacedAlternatives) → IsSilent level_stated ps → (o : Option Side) → LastOf side_stated (p ∷ ps) o → SideOf (p ∷ ps) o
side_first p ps none (Some s) h = (h.0, h.1, later)
  where
    later : (i : ℕ) → h.0 < i → (side_stated_at (p ∷ ps) i ≡ None) × (level_stated_at (p ∷ ps) i ≡ None)
    later zero lt = absurd (omega arith)
    later (suc i) lt = (h.2 (suc i) lt, none i)
side_first p ps none None h = λ j s e. absurd (apart (h j) e)
  where
    apart : {o : Option Side} {s : Side} → o ≡ None → o ≡ Some s → ⊥
    apart e f = grind arith

side_step : (p : Option AlternativeData) (ps : PlacedAlternatives) (o : Option ℕ) → LastOf level_stated ps o → SideOf ps (last_stated (map side_stated (since_level ps))) →
    SideOf (p ∷ ps) (last_stated (map side_stated (if is_some o then since_level ps else p ∷ ps)))
side_step p ps (Some l) h i = side_on p ps l h (last_stated (map side_stated (since_level ps))) i
side_step p ps None h i = side_first p ps h (last_stated (map side_stated (p ∷ ps))) (last_of side_stated (p ∷ ps))

side_of : (ps : PlacedAlternatives) → SideOf ps (last_stated (map side_stated (since_level ps)))
side_of [] = λ j s e. absurd (grind arith)
side_of (p ∷ ps) = side_step p ps (last_stated (map level_stated ps)) (last_of level_stated ps) (side_of ps)

side_by : (ps : PlacedAlternatives) (k : ℕ) (o : Option Side) → SideOf (up_to k ps) o →
    IsStatedSide ps k (unwrap_or o every) ⊎ (NoSideIsStated ps k × (unwrap_or o every ≡ every))
side_by ps k (Some s) h =
    let within : h.0 < suc k = taken_within side_stated (suc k) ps h.0 s h.1 in
    let le : h.0 ≤ k = omega arith in
    inl (
      h.0,
      le,
      sym (side_here ps k h.0 le) ∙ h.1,
      λ i lt most. (sym (side_here ps k i most) ∙ (h.2 i lt).0, sym (level_here ps k i most) ∙ (h.2 i lt).1),
    )
side_by ps k None h = inr (none, refl)
  where
    none : NoSideIsStated ps k
    none j s le e =
        let (i, l, lt, at) = h j s (side_here ps k j le ∙ e) in
        let within : i < suc k = taken_within level_stated (suc k) ps i l at in
        let most : i ≤ k = omega arith in
        (i, l, lt, most, sym (level_here ps k i most) ∙ at)

pub sides_are_stated : SidesAreStated
sides_are_stated ps k = side_by ps k (last_stated (map side_stated (since_level (up_to k ps)))) (side_of (up_to k ps))
