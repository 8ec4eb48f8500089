-- Rows: arrays of a known number of items, each of its own kind.
use Rattle.std.specs.Prelude.{◌≡◌, ⊤, ℕ, suc, List, [], ◌∷◌, Bool, true, false, ◌&&◌, Option, Some, None}
use Rattle.serde_json.specs.Data.{Data, array, Items, no_items, item}
use Rattle.json_records.specs.Fields.{Holds}

-- ---- words of contracts

-- the items are as many as the tests, and each passes its test
abbrev pub pass_row : List (Data → Bool) → Items → Bool
pass_row [] no_items = true
pass_row [] (item d ds) = false
pass_row (t ∷ ts) no_items = false
pass_row (t ∷ ts) (item d ds) = t d && pass_row ts ds

-- an array of such items
abbrev pub is_row : List (Data → Bool) → Data → Bool
is_row ts (array ds) = pass_row ts ds
is_row ts _ = false

-- ---- the code's own words

-- the number of items, where more than the tests count as one more than these
abbrev pub place_of : List (Data → Bool) → List Data → ℕ
place_of ts [] = 0
place_of [] (d ∷ ds) = 1
place_of (t ∷ ts) (d ∷ ds) = suc (place_of ts ds)

-- what is held of the item at each index
abbrev pub RowHolds : List (Data → Bool) → List (Option Data) → List Data → Type 0
RowHolds [] [] ds = ⊤
RowHolds (t ∷ ts) (h ∷ hs) [] = Holds t h None × RowHolds ts hs []
RowHolds (t ∷ ts) (h ∷ hs) (d ∷ ds) = Holds t h (Some d) × RowHolds ts hs ds
RowHolds _ _ _ = ⊥

-- the items that were read: the index of the next one, and what is held of them
pub record RowSoFar (ts : List (Data → Bool)) (held : List (Option Data)) (place : ℕ) (ds : List Data) : Type 0 where
  pub at : place ≡ place_of ts ds
  pub hold : RowHolds ts held ds
