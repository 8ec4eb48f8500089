-- Arrays of a known number of items, which are read index by index.
use Rattle.std.proofs.Common.{◌≡◌, ◌⊎◌, inl, inr, ℕ, zero, suc, ◌≤◌, List, [], ◌∷◌, ◌++◌, length, map, Bool, true, false, ◌&&◌, Option, Some, None, is_some, option_map, MatchOption, refl, sym, ap, ◌∙◌, subst, arith}
use Rattle.std.specs.List.{list_all}
use Rattle.json.specs.Json.{after_end_array}
use Rattle.json.specs.Token.{Token}
use Rattle.serde_json.specs.Data.{Data, array, no_items}
use Rattle.json_records.specs.Fields.{Holds}
use Rattle.json_records.specs.Reading.{data_of, items_before, list_form, ItemsSoFar, NoItems}
use Rattle.json_records.specs.Rows.{pass_row, is_row, place_of, RowHolds, RowSoFar}
use Rattle.json_records.proofs.Turns.{to_items_is, array_stop, items_stop, item_stop}

pub made_here : {T : Type 0} (form : T → Data) (can : Data → Bool) (o : Option T) (d : Data) → MatchOption o (can d ≡ false) (λ x. d ≡ form x) → Holds can (option_map form o) (Some d)
made_here form can None d e = e
made_here form can (Some x) d e = ap Some e

suc_is : {m n : ℕ} → suc m ≡ suc n → m ≡ n
suc_is e = omega (arith, e)

-- ---- the start

holds_start : (ts : List (Data → Bool)) → RowHolds ts (map (λ t. None) ts) []
holds_start [] = tt
holds_start (t ∷ ts) = (tt, holds_start ts)

pub row_start : (ts : List (Data → Bool)) → RowSoFar ts (map (λ t. None) ts) 0 []
row_start ts = record { at = refl; hold = holds_start ts }

-- ---- one item more

-- of a row whose first item is taken, the items behind it
behind : (t : Data → Bool) (ts : List (Data → Bool)) (h : Option Data) (hs : List (Option Data)) (k : ℕ) (d : Data) (ds : List Data) → RowSoFar (t ∷ ts) (h ∷ hs) (suc k) (d ∷ ds) → RowSoFar ts hs k ds
behind t ts h hs k d ds r = record { at = suc_is r.at; hold = r.hold.1 }

-- what is read at an index that was reached
abbrev pub IsAt : List (Data → Bool) → ℕ → Data → List (Option Data) → List (Option Data) → Type 0
IsAt (t ∷ ts) zero d (h ∷ hs) (g ∷ gs) = Holds t g (Some d) × (gs ≡ hs)
IsAt (t ∷ ts) (suc k) d (h ∷ hs) (g ∷ gs) = (g ≡ h) × IsAt ts k d hs gs
IsAt _ _ _ _ _ = ⊥

pub row_more : (ts : List (Data → Bool)) (hs gs : List (Option Data)) (k : ℕ) (ds : List Data) (d : Data) → IsAt ts k d hs gs → RowSoFar ts hs k ds → RowSoFar ts gs (suc k) (ds ++ d ∷ [])
row_more [] hs gs k ds d is r = absurd is
row_more (t ∷ ts) [] gs k ds d is r = absurd r.hold
row_more (t ∷ ts) (h ∷ hs) [] zero ds d is r = absurd is
row_more (t ∷ ts) (h ∷ hs) [] (suc k) ds d is r = absurd is
row_more (t ∷ ts) (h ∷ hs) (g ∷ gs) zero [] d is r = record { at = refl; hold = (is.0, subst (λ xs. RowHolds ts xs []) (sym is.1) r.hold.1) }
row_more (t ∷ ts) (h ∷ hs) (g ∷ gs) zero (e ∷ ds) d is r = absurd (omega (arith, r.at))
row_more (t ∷ ts) (h ∷ hs) (g ∷ gs) (suc k) [] d is r = absurd (omega (arith, r.at))
row_more (t ∷ ts) (h ∷ hs) (g ∷ gs) (suc k) (e ∷ ds) d is r =
    let more = row_more ts hs gs k ds d is.1 (behind t ts h hs k e ds r) in
    record { at = ap suc more.at; hold = (subst (λ x. Holds t x (Some e)) (sym is.0) r.hold.0, more.hold) }

-- an item that is further than the tests
pub row_past : (ts : List (Data → Bool)) (hs : List (Option Data)) (k : ℕ) (ds : List Data) (d : Data) → length ts ≤ k → RowSoFar ts hs k ds → RowSoFar ts hs (suc (length ts)) (ds ++ d ∷ [])
row_past [] [] k [] d long r = record { at = refl; hold = tt }
row_past [] [] k (e ∷ ds) d long r = record { at = refl; hold = tt }
row_past [] (h ∷ hs) k ds d long r = absurd r.hold
row_past (t ∷ ts) [] k ds d long r = absurd r.hold
row_past (t ∷ ts) (h ∷ hs) zero ds d long r = absurd (omega (arith, long))
row_past (t ∷ ts) (h ∷ hs) (suc k) [] d long r = absurd (omega (arith, r.at))
row_past (t ∷ ts) (h ∷ hs) (suc k) (e ∷ ds) d long r =
    let short : length ts ≤ k = omega (arith, long) in
    let more = row_past ts hs k ds d short (behind t ts h hs k e ds r) in
    record { at = ap suc more.at; hold = (r.hold.0, more.hold) }

-- ---- the end

some_is : (a b : Data) → ◌≡◌ {A = Option Data} (Some a) (Some b) → a ≡ b
some_is a b e = cc

all_read : (ts : List (Data → Bool)) (es : List Data) (ds : List Data) → RowHolds ts (map (λ e. Some e) es) ds → place_of ts ds ≡ length ts → ds ≡ es
all_read [] [] [] hold e = refl
all_read [] [] (d ∷ ds) hold e = absurd (omega (arith, e))
all_read [] (x ∷ es) ds hold e = absurd hold
all_read (t ∷ ts) [] ds hold e = absurd hold
all_read (t ∷ ts) (x ∷ es) [] hold e = absurd (omega (arith, e))
all_read (t ∷ ts) (x ∷ es) (d ∷ ds) hold e = rw (some_is d x hold.0, all_read ts es ds hold.1 (suc_is e)) refl

-- where the row ends at its last index, and all is held, the array is of these
pub row_made : (ts : List (Data → Bool)) (hs : List (Option Data)) (es : List Data) (k : ℕ) (ds : List Data) → k ≡ length ts → hs ≡ map (λ e. Some e) es → RowSoFar ts hs k ds → array (items_before ds no_items) ≡ list_form es
row_made ts hs es k ds end held r = ap array (to_items_is ds) ∙ ap list_form (all_read ts es ds (subst (λ xs. RowHolds ts xs ds) held r.hold) (sym r.at ∙ end))

pub both_false : (a : Bool) → (a && false) ≡ false
both_false true = refl
both_false false = refl

other_place : (ts : List (Data → Bool)) (ds : List Data) → (place_of ts ds ≡ length ts → ⊥) → pass_row ts (items_before ds no_items) ≡ false
other_place [] [] never = absurd (never refl)
other_place [] (d ∷ ds) never = refl
other_place (t ∷ ts) [] never = refl
other_place (t ∷ ts) (d ∷ ds) never = rw (other_place ts ds (λ e. never (ap suc e))) (both_false (t d))

-- where it ends at another index, it is no such row
pub row_other : (ts : List (Data → Bool)) (hs : List (Option Data)) (k : ℕ) (ds : List Data) → (k ≡ length ts → ⊥) → RowSoFar ts hs k ds → is_row ts (array (items_before ds no_items)) ≡ false
row_other ts hs k ds never r = other_place ts ds (λ e. never (r.at ∙ e))

lacks : (ts : List (Data → Bool)) (hs : List (Option Data)) (ds : List Data) → list_all is_some hs ≡ false → RowHolds ts hs ds → pass_row ts (items_before ds no_items) ≡ false
lacks [] [] ds none hold = absurd (cc)
lacks [] (h ∷ hs) ds none hold = absurd hold
lacks (t ∷ ts) [] ds none hold = absurd hold
lacks (t ∷ ts) (h ∷ hs) [] none hold = refl
lacks (t ∷ ts) (None ∷ hs) (d ∷ ds) none hold = rw hold.0 refl
lacks (t ∷ ts) (Some x ∷ hs) (d ∷ ds) none hold = rw (lacks ts hs ds none hold.1) (both_false (t d))

-- nor where something is not held
pub row_lacks : (ts : List (Data → Bool)) (hs : List (Option Data)) (k : ℕ) (ds : List Data) → list_all is_some hs ≡ false → RowSoFar ts hs k ds → is_row ts (array (items_before ds no_items)) ≡ false
row_lacks ts hs k ds none r = lacks ts hs ds none r.hold

pub is_none : {T : Type 0} (o : Option T) → ((x : T) → o ≡ Some x → ⊥) → o ≡ None
is_none None never = refl
is_none (Some x) never = absurd (never x refl)

module _ {T : Type 0} (form : T → Data) (o : Option T) (none : o ≡ None) (ts : List (Data → Bool)) where
  -- of the first item, of the second and of the third
  pub row_lacks_first : (hs : List (Option Data)) (k : ℕ) (ds : List Data) → RowSoFar ts (option_map form o ∷ hs) k ds → is_row ts (array (items_before ds no_items)) ≡ false
  row_lacks_first hs k ds r = row_lacks ts (option_map form o ∷ hs) k ds (rw none refl) r

  pub row_lacks_second : (f : Option Data) (hs : List (Option Data)) (k : ℕ) (ds : List Data) → RowSoFar ts (f ∷ option_map form o ∷ hs) k ds → is_row ts (array (items_before ds no_items)) ≡ false
  row_lacks_second f hs k ds r = row_lacks ts (f ∷ option_map form o ∷ hs) k ds (rw none (both_false (is_some f))) r

  pub row_lacks_third : (f g : Option Data) (hs : List (Option Data)) (k : ℕ) (ds : List Data) → RowSoFar ts (f ∷ g ∷ option_map form o ∷ hs) k ds → is_row ts (array (items_before ds no_items)) ≡ false
  row_lacks_third f g hs k ds r = row_lacks ts (f ∷ g ∷ option_map form o ∷ hs) k ds (rw (none, both_false (is_some g)) (both_false (is_some f))) r

-- ---- the end, by what `both` and `all_three` say

module _ {A B : Type 0} (f : A → Data) (g : B → Data) (ts : List (Data → Bool)) (one : Option A) (two : Option B) (ds : List Data) where
  pub row_both : (k : ℕ) (o : Option (A × B)) → k ≡ length ts → MatchOption o ((one ≡ None) ⊎ (two ≡ None)) (λ p. (one ≡ Some p.0) × (two ≡ Some p.1)) → RowSoFar ts (option_map f one ∷ option_map g two ∷ []) k ds
      → MatchOption o (is_row ts (array (items_before ds no_items)) ≡ false) (λ p. array (items_before ds no_items) ≡ list_form (f p.0 ∷ g p.1 ∷ []))
  row_both k None end (inl e) r = row_lacks_first f one e ts (option_map g two ∷ []) k ds r
  row_both k None end (inr e) r = row_lacks_second g two e ts (option_map f one) [] k ds r
  row_both k (Some p) end is r = row_made ts (option_map f one ∷ option_map g two ∷ []) (f p.0 ∷ g p.1 ∷ []) k ds end (rw (is.0, is.1) refl) r

module _ {A B C : Type 0} (f : A → Data) (g : B → Data) (h : C → Data) (ts : List (Data → Bool)) (one : Option A) (two : Option B) (three : Option C) (ds : List Data) where
  pub row_all_three : (k : ℕ) (o : Option (A × B × C)) → k ≡ length ts → MatchOption o ((one ≡ None) ⊎ ((two ≡ None) ⊎ (three ≡ None))) (λ p. (one ≡ Some p.0) × (two ≡ Some p.1) × (three ≡ Some p.2))
      → RowSoFar ts (option_map f one ∷ option_map g two ∷ option_map h three ∷ []) k ds → MatchOption o (is_row ts (array (items_before ds no_items)) ≡ false) (λ p. array (items_before ds no_items) ≡ list_form (f p.0 ∷ g p.1 ∷ h p.2 ∷ []))
  row_all_three k None end (inl e) r = row_lacks_first f one e ts (option_map g two ∷ option_map h three ∷ []) k ds r
  row_all_three k None end (inr (inl e)) r = row_lacks_second g two e ts (option_map f one) (option_map h three ∷ []) k ds r
  row_all_three k None end (inr (inr e)) r = row_lacks_third h three e ts (option_map f one) (option_map g two) [] k ds r
  row_all_three k (Some p) end is r = row_made ts (option_map f one ∷ option_map g two ∷ option_map h three ∷ []) (f p.0 ∷ g p.1 ∷ h p.2 ∷ []) k ds end (rw (is.0, is.1, is.2) refl) r

-- ---- where no JSON value is read

module _ (t : Token) (n m : ℕ) (ts now : List Token) (ds : List Data) (opened : t ≡ Token.begin_array) (deeper : n ≡ suc m) (so_far : ItemsSoFar m ts now ds) where
  -- no item comes next
  pub row_stop : NoItems m now → data_of n (t ∷ ts) ≡ None
  row_stop none = array_stop t n m ts deeper opened (items_stop m ts now ds so_far none)

  -- the item that comes next is none
  pub row_lost : after_end_array now ≡ None → data_of m now ≡ None → data_of n (t ∷ ts) ≡ None
  row_lost going none = array_stop t n m ts deeper opened (item_stop m ts now ds so_far going none)
