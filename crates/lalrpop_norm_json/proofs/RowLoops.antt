-- The loops over rows that are written by hand.
use Rattle.std.proofs.Common.{◌≡◌, ◌⊎◌, ℕ, suc, ◌<◌, ◌≤◌, ◌++◌, List, [], ◌∷◌, length, map, Bool, true, false, ◌&&◌, Option, Some, None, option_map, MatchOption, refl, sym, ap, ◌∙◌, subst, arith}
use Rattle.json.specs.Json.{after_end_array}
use Rattle.json.specs.Token.{Token}
use Rattle.serde_json.specs.Data.{Data, null, boolean, number, string, array, object, Items, no_items, item}
use Rattle.json_records.specs.Fields.{Holds}
use Rattle.json_records.specs.Reading.{data_of, IsRead, is_array, list_form, items_before, ItemsSoFar, NoItems}
use Rattle.json_records.specs.Rows.{pass_row, is_row, RowSoFar}
use Rattle.json_records.proofs.Turns as turn
use Rattle.json_records.proofs.Tupled as tupled
use Rattle.lalrpop_norm_json.specs.Shapes.{Slot, row, slot, arrayed, fits, fits_items}
use Rattle.lalrpop_norm_json.proofs.Loops.{OpensArray}
use Rattle.lalrpop_norm_json.proofs.Shaped.{test, slot_is}

-- ---- the shape of a row, in the terms of the readers

items_are : (ps : List Slot) (ds : Items) → fits_items (row ps) ds ≡ pass_row (map test ps) ds
items_are [] no_items = refl
items_are [] (item d ds) = refl
items_are (p ∷ ps) no_items = refl
items_are (p ∷ ps) (item d ds) = ap (λ b. b && fits_items (row ps) ds) (slot_is p d) ∙ ap (λ b. test p d && b) (items_are ps ds)

pub row_is : (ps : List Slot) (d : Data) → fits (arrayed (row ps)) d ≡ is_row (map test ps) d
row_is ps null = refl
row_is ps (boolean b) = refl
row_is ps (number x) = refl
row_is ps (string t) = refl
row_is ps (array ds) = items_are ps ds
row_is ps (object ms) = refl

-- ---- rows

-- the invariant: RowRead TESTS l.depth l.fn.reader l.reader (option_map FORM l.item ∷ .. ∷ []) l.place
pub record RowRead (ts : List (Data → Bool)) (n : ℕ) (start rest : List Token) (held : List (Option Data)) (place : ℕ) : Type 0 where
  pub found : List Data
  pub so_far : ItemsSoFar n start rest found
  pub row : RowSoFar ts held place found

module _ (ts : List (Data → Bool)) where
  -- the invariant at the start
  pub row_begins : (n : ℕ) (start now : List Token) → now ≡ start → RowRead ts n start now (map (λ t. None) ts) 0
  row_begins n start now same = record { found = []; so_far = subst (λ s. ItemsSoFar n start s []) (sym same) (turn.items_start n start); row = tupled.row_start ts }

  -- where there is no array
  pub no_row : {V : Type 0} (whole : V → Data) (n : ℕ) (start rest : List Token) → ((d : Data) × (data_of n start ≡ Some (d, rest)) × (is_array d ≡ false)) → IsRead whole (is_row ts) n start rest None
  no_row whole n start rest v = record { means = v.0; read = v.1; made = other v.0 v.2 }
    where
      other : (d : Data) → is_array d ≡ false → is_row ts d ≡ false
      other null e = refl
      other (boolean b) e = refl
      other (number x) e = refl
      other (string s) e = refl
      other (array ds) e = absurd (cc)
      other (object ms) e = refl

  module _ (n : ℕ) (start now : List Token) (held : List (Option Data)) (place : ℕ) (r : RowRead ts n start now held place) where
    -- after the item at index k: the last argument is λ made. (refl, .. (made, refl))
    pub row_item : {T : Type 0} (form : T → Data) (can : Data → Bool) (k : ℕ) (s rest : List Token) (o : Option T) (new : List (Option Data)) → place ≡ k → (after_end_array now ≡ None) × (now ≡ s)
        → (v : IsRead form can n s rest o) → length rest < length now → (Holds can (option_map form o) (Some v.means) → tupled.IsAt ts k v.means held new) → RowRead ts n start rest new (suc k)
    row_item form can k s rest o new is going v less at = record {
      found = r.found ++ v.means ∷ [];
      so_far = turn.item_more n start now r.found r.so_far rest v.means going.0 (ap (data_of n) going.1 ∙ v.read) less;
      row = tupled.row_more ts held new k r.found v.means (at (tupled.made_here form can o v.means v.made)) (subst (λ p. RowSoFar ts held p r.found) is r.row);
    }

    -- after one that is further
    pub row_beyond : (s rest : List Token) → length ts ≤ place → (after_end_array now ≡ None) × (now ≡ s) → ((d : Data) × (data_of n s ≡ Some (d, rest))) → length rest < length now → RowRead ts n start rest held (suc (length ts))
    row_beyond s rest past going v less = record {
      found = r.found ++ v.0 ∷ [];
      so_far = turn.item_more n start now r.found r.so_far rest v.0 going.0 (ap (data_of n) going.1 ∙ v.1) less;
      row = tupled.row_past ts held place r.found v.0 past r.row;
    }

  module _ (t : Token) (n m : ℕ) (behind start now : List Token) (held : List (Option Data)) (place : ℕ) (opens : OpensArray t n m behind start) (r : RowRead ts m start now held place) where
    -- where `next_item` fails
    pub row_stops : NoItems m now → data_of n (t ∷ start) ≡ None
    row_stops none = tupled.row_stop t n m start now r.found opens.0 opens.1 r.so_far none

    -- where the reader of an item fails
    pub row_item_fails : (s : List Token) → (after_end_array now ≡ None) × (now ≡ s) → data_of m s ≡ None → data_of n (t ∷ start) ≡ None
    row_item_fails s going none = tupled.row_lost t n m start now r.found opens.0 opens.1 r.so_far going.0 (ap (data_of m) going.1 ∙ none)

    -- where the array ends: at another index than its last
    pub row_elsewhere : {V : Type 0} (whole : V → Data) (rest : List Token) → (place ≡ length ts → ⊥) → after_end_array now ≡ Some rest → IsRead whole (is_row ts) n (t ∷ start) rest None
    row_elsewhere whole rest never end = record {
      means = array (items_before r.found no_items);
      read = turn.array_done t n m start now rest opens.1 r.found opens.0 r.so_far end;
      made = tupled.row_other ts held place r.found never r.row;
    }

module _ (ts : List (Data → Bool)) (t : Token) (n m : ℕ) (behind start now rest : List Token) (place : ℕ) (opens : OpensArray t n m behind start) (end : after_end_array now ≡ Some rest) (last : place ≡ length ts) where
  -- at its last: what `both` and `all_three` say
  pub row_of_two : {A B : Type 0} (f : A → Data) (g : B → Data) (one : Option A) (two : Option B) (o : Option (A × B)) → MatchOption o ((one ≡ None) ⊎ (two ≡ None)) (λ p. (one ≡ Some p.0) × (two ≡ Some p.1))
      → RowRead ts m start now (option_map f one ∷ option_map g two ∷ []) place → IsRead (λ (p : A × B). list_form (f p.0 ∷ g p.1 ∷ [])) (is_row ts) n (t ∷ start) rest o
  row_of_two f g one two o is r = record {
    means = array (items_before r.found no_items);
    read = turn.array_done t n m start now rest opens.1 r.found opens.0 r.so_far end;
    made = tupled.row_both f g ts one two r.found place o last is r.row;
  }

  pub row_of_three : {A B C : Type 0} (f : A → Data) (g : B → Data) (h : C → Data) (one : Option A) (two : Option B) (three : Option C) (o : Option (A × B × C))
      → MatchOption o ((one ≡ None) ⊎ ((two ≡ None) ⊎ (three ≡ None))) (λ p. (one ≡ Some p.0) × (two ≡ Some p.1) × (three ≡ Some p.2))
      → RowRead ts m start now (option_map f one ∷ option_map g two ∷ option_map h three ∷ []) place → IsRead (λ (p : A × B × C). list_form (f p.0 ∷ g p.1 ∷ h p.2 ∷ [])) (is_row ts) n (t ∷ start) rest o
  row_of_three f g h one two three o is r = record {
    means = array (items_before r.found no_items);
    read = turn.array_done t n m start now rest opens.1 r.found opens.0 r.so_far end;
    made = tupled.row_all_three f g h ts one two three r.found place o last is r.row;
  }
