-- The records whose members are put into fields one by one: each member by a function of its own, the values at the end by
-- another.
use Rattle.std.proofs.Common.{◌≡◌, ◌⊎◌, inl, inr, ℕ, ◌<◌, List, [], ◌∷◌, length, map, Bool, true, false, Option, Some, None, option_map, MatchOption, refl, ap, subst}
use Rattle.json.specs.Json.{read_key}
use Rattle.json.specs.Token.{Token}
use Rattle.serde_json.specs.Data.{Data, object, put}
use Rattle.json_records.specs.Fields.{members_under, Puts, is_known}
use Rattle.json_records.specs.Order.{rise_above}
use Rattle.json_records.specs.Reading.{data_of, IsRead}
use Rattle.json_records.proofs.Turns as turn
use Rattle.json_records.proofs.Rows as row
use Rattle.lalrpop_norm_json.specs.Shapes.{Slot, fits, struct}
use Rattle.lalrpop_norm_json.specs.Taken.{IsPut, IsTaken}
use Rattle.lalrpop_norm_json.proofs.Loops.{OpensObject, RecordSoFar, LacksOne, names, tests, not_known, record_strays, record_lacks, record_whole}
use Rattle.lalrpop_norm_json.proofs.Shaped.{AreApart}

-- ---- a member

module _ (ns : List (List ℕ)) (ts : List (Data → Bool)) (k : List ℕ) (n : ℕ) (s rest : List Token) where
  -- something was made for the field of this name: the last argument is λ made. inr (refl, .. inl (c.in-KEY.is, made, refl))
  pub is_taken : {T : Type 0} (form : T → Data) (can : Data → Bool) (o : Option T) (held new : List (Option Data)) (v : IsRead form can n s rest o)
      → (MatchOption (option_map form o) (can v.means ≡ false) (λ e. v.means ≡ e) → Puts ns ts k v.means held new) → IsTaken ns ts k n s rest held new true
  is_taken form can o held new v puts = record { means = v.means; read = v.read; put = puts (row.made_data form can o v.means v.made) }

  -- there is no such field
  pub not_taken : (held : List (Option Data)) → AreApart k ns → ((d : Data) × (data_of n s ≡ Some (d, rest))) → IsTaken ns ts k n s rest held held false
  not_taken held apart v = record { means = v.0; read = v.1; put = (not_known k ns apart, refl) }

module _ (rows : List (List ℕ × Slot)) (n : ℕ) (start now : List Token) (held : List (Option Data)) (strays : Bool) (r : RecordSoFar rows n start now held strays) (k : List ℕ) (s rest : List Token) (new : List (Option Data)) (known : Bool)
    (rise : rise_above None (names rows) ≡ true) (key : read_key now ≡ Some (Some k, s)) (v : IsTaken (names rows) (tests rows) k n s rest held new known) (less : length rest < length now) where
  -- the invariant behind a member of a known name, and behind another
  pub record_known : known ≡ true → RecordSoFar rows n start rest new strays
  record_known e =
      let puts : Puts (names rows) (tests rows) k v.means held new = subst (λ b. IsPut (names rows) (tests rows) k v.means held new b) e v.put in
      record {
        found = put k v.means r.found;
        so_far = turn.member_more n start now r.found r.so_far k s rest v.means key v.read less;
        are = row.put_so_far (names rows) (tests rows) k v.means held new strays r.found rise puts r.are;
      }

  pub record_unknown : known ≡ false → RecordSoFar rows n start rest new true
  record_unknown e =
      let other : (is_known k (names rows) ≡ false) × (new ≡ held) = subst (λ b. IsPut (names rows) (tests rows) k v.means held new b) e v.put in
      record {
        found = put k v.means r.found;
        so_far = turn.member_more n start now r.found r.so_far k s rest v.means key v.read less;
        are = row.put_stray (names rows) k v.means r.found other.0;
      }

-- ---- the end

module _ (rows : List (List ℕ × Slot)) {T : Type 0} (form : T → Data) (t : Token) (n m : ℕ) (behind ts now rest : List Token) (held : List (Option Data)) (strays : Bool) (opens : OpensObject t n m behind ts) (r : RecordSoFar rows m ts now held strays) (end : read_key now ≡ Some (None, rest)) (rise : rise_above None (names rows) ≡ true) where
  none_read : (strays ≡ true) ⊎ LacksOne held → IsRead form (fits (struct rows)) n (t ∷ ts) rest None
  none_read (inl e) = record_strays rows form t n m behind ts now rest held strays opens r end e
  none_read (inr lacks) = at strays refl
    where
      at : (b : Bool) → strays ≡ b → IsRead form (fits (struct rows)) n (t ∷ ts) rest None
      at true e = record_strays rows form t n m behind ts now rest held strays opens r end e
      at false e = record_lacks rows form t n m behind ts now rest held strays opens r end rise e lacks

-- the data of a record with these values
abbrev pub record_of : List (List ℕ × Slot) → List Data → Data
record_of rows ds = object (members_under (names rows) (map (λ d. Some d) ds))

module _ (rows : List (List ℕ × Slot)) (t : Token) (n m : ℕ) (behind ts now rest : List Token) (strays : Bool) (opens : OpensObject t n m behind ts) (end : read_key now ≡ Some (None, rest)) (rise : rise_above None (names rows) ≡ true) where
  -- what `three_values` says
  pub read_three : {A B C : Type 0} (f : A → Data) (g : B → Data) (h : C → Data) (one : Option A) (two : Option B) (three : Option C) (o : Option (A × B × C))
      → MatchOption o ((strays ≡ true) ⊎ ((one ≡ None) ⊎ ((two ≡ None) ⊎ (three ≡ None)))) (λ v. (strays ≡ false) × (one ≡ Some v.0) × (two ≡ Some v.1) × (three ≡ Some v.2))
      → RecordSoFar rows m ts now (option_map f one ∷ option_map g two ∷ option_map h three ∷ []) strays → IsRead (λ (v : A × B × C). record_of rows (f v.0 ∷ g v.1 ∷ h v.2 ∷ [])) (fits (struct rows)) n (t ∷ ts) rest o
  read_three f g h one two three None is r = none_read rows _ t n m behind ts now rest _ strays opens r end rise (none is)
    where
      none : (strays ≡ true) ⊎ ((one ≡ None) ⊎ ((two ≡ None) ⊎ (three ≡ None))) → (strays ≡ true) ⊎ LacksOne (option_map f one ∷ option_map g two ∷ option_map h three ∷ [])
      none (inl e) = inl e
      none (inr (inl e)) = inr (inl (ap (option_map f) e))
      none (inr (inr (inl e))) = inr (inr (inl (ap (option_map g) e)))
      none (inr (inr (inr e))) = inr (inr (inr (inl (ap (option_map h) e))))
  read_three f g h one two three (Some v) is r = record_whole rows _ t n m behind ts now rest _ strays opens r end (f v.0 ∷ g v.1 ∷ h v.2 ∷ []) v is.0 (rw (is.1, is.2, is.3) refl) refl
