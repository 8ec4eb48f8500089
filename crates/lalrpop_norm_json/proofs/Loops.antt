-- The loops of the readers that are written by hand: of records, of variants and of lists.
-- What the token opens is known by `told_some _ _ _ _ c.in-Some.is c.in_ok-depth.ensures.ok`, the key of a member by the same of
-- `next_member`.
use Rattle.std.specs.Prelude.{⊤, IfOk, OnOk, IsErr}
use Rattle.std.proofs.Common.{◌≡◌, ◌⊎◌, inl, inr, ℕ, suc, ◌<◌, ◌≤◌, ◌++◌, List, [], ◌∷◌, length, map, Bool, true, false, Option, Some, None, is_some, option_map, MatchOption, Bor, Result, Ok, Err, refl, sym, ap, ◌∙◌, subst, arith}
use Rattle.std.proofs.lemmas.List.{length-map}
use Rattle.std.proofs.lemmas.Slice.Eq.{bytes_eq-Decides}
use Rattle.std.specs.List.{list_all}
use Rattle.std.specs.Option.{option_map_or}
use Rattle.std.specs.Prelude.{not, bytes_eq}
use Rattle.json.specs.Json.{read_key, after_end_array}
use Rattle.json.specs.Reads.{token_of}
use Rattle.json.specs.Token.{Token, begin_object, begin_array}
use Rattle.json.specs.declared.token.Token.{Token as Found}
use Rattle.json.specs.declared.token.Token.TheVariants as token
use Rattle.serde_json.specs.Data.{Data, null, boolean, number, string, array, object, no_items, Members, no_members, member, put}
use Rattle.json_records.specs.Fields.{members_under, is_record, AreHeld, AreSoFar, Puts, is_known}
use Rattle.json_records.specs.Order.{rise_above}
use Rattle.json_records.specs.Reading.{data_of, IsRead, IsReadUnder, is_object, is_array, is_list, list_form, items_before, under, AreMade, MembersSoFar, ItemsSoFar, NoMembers, NoItems}
use Rattle.json_records.specs.Variants.{Made, IsVariantOf, VariantSoFar}
use Rattle.json_records.proofs.Turns as turn
use Rattle.json_records.proofs.Rows as row
use Rattle.json_records.proofs.Named as named
use Rattle.lalrpop_norm_json.specs.Laws.{no_variant}
use Rattle.lalrpop_norm_json.specs.Shapes.{Slot, Held, fits, struct, variants, is_among}
use Rattle.lalrpop_norm_json.proofs.Shaped.{test, struct_is, AreApart, IsApart, no_case, told_none, told_some}

-- where an error is propagated, nothing is asked of an answer: of c.from_residual-in_err-X.ensures.0
pub not_ok : {T E : Type 0} (r : Result T E) (P : T → Type 0) → IsErr r → IfOk r P
not_ok (Ok x) P e = absurd (cc)
not_ok (Err x) P e = tt

pub no_answer : {T E : Type 0} (r : Result T E) (Q : Type 0) → IsErr r → OnOk r Q
no_answer (Ok x) Q e = absurd (cc)
no_answer (Err x) Q e = tt

-- ---- an object, from its brace on

-- the token t opens an object, whose values have m levels of its n; behind it the tokens ts are left, as before
abbrev pub OpensObject : Token → ℕ → ℕ → List Token → List Token → Type 0
OpensObject t n m now ts = (t ≡ begin_object) × (n ≡ suc m) × (now ≡ ts)

module _ (t : Token) (n m : ℕ) (behind ts now : List Token) (found : Members) (opens : OpensObject t n m behind ts) (so_far : MembersSoFar m ts now found) where
  -- where `next_member` fails
  pub no_member : NoMembers m now → data_of n (t ∷ ts) ≡ None
  no_member none = turn.object_stop t n m ts opens.1 opens.0 (turn.members_stop m ts now found so_far none)

  -- where the reader of a member's value fails
  pub no_value : (k : List ℕ) (s : List Token) → read_key now ≡ Some (Some k, s) → data_of m s ≡ None → data_of n (t ∷ ts) ≡ None
  no_value k s key none = turn.object_stop t n m ts opens.1 opens.0 (turn.member_stop m ts now found so_far k s key none)

-- ---- records: the rows are those of the shape, `held` has the form of each field in their order

abbrev pub names : List (List ℕ × Slot) → List (List ℕ)
names rows = map (λ r. r.0) rows

abbrev pub tests : List (List ℕ × Slot) → List (Data → Bool)
tests rows = map (λ r. test r.1) rows

-- the invariant: RecordSoFar ROWS l.depth l.fn.reader l.reader (option_map FORM l.field ∷ .. ∷ []) l.strays
pub record RecordSoFar (rows : List (List ℕ × Slot)) (n : ℕ) (start rest : List Token) (held : List (Option Data)) (strays : Bool) : Type 0 where
  pub found : Members
  pub so_far : MembersSoFar n start rest found
  pub are : AreSoFar (names rows) (tests rows) held strays found

-- none of these
pub not_known : (k : List ℕ) (ns : List (List ℕ)) → AreApart k ns → is_known k ns ≡ false
not_known k [] apart = refl
not_known k (n ∷ ns) apart = rw (other (bytes_eq k n) refl, not_known k ns apart.1) refl
  where
    other : (b : Bool) → bytes_eq k n ≡ b → bytes_eq k n ≡ false
    other true e = absurd (apart.0 ((bytes_eq-Decides k n).0 e))
    other false e = e

-- one of the fields holds nothing
abbrev pub LacksOne : List (Option Data) → Type 0
LacksOne [] = ⊥
LacksOne (h ∷ hs) = (h ≡ None) ⊎ LacksOne hs

lacks : (hs : List (Option Data)) → LacksOne hs → list_all is_some hs ≡ false
lacks [] e = absurd e
lacks (h ∷ hs) (inl e) = rw e refl
lacks (None ∷ hs) (inr e) = refl
lacks (Some d ∷ hs) (inr e) = lacks hs e

module _ (rows : List (List ℕ × Slot)) where
  -- the invariant at the start
  pub record_start : (n : ℕ) (ts now : List Token) → now ≡ ts → RecordSoFar rows n ts now (map (λ t. None) (tests rows)) false
  record_start n ts now same = record {
    found = no_members;
    so_far = subst (λ s. MembersSoFar n ts s no_members) (sym same) (turn.members_start n ts);
    are = row.start_held (names rows) (tests rows);
  }

  module _ (n : ℕ) (start now : List Token) (held : List (Option Data)) (strays : Bool) (r : RecordSoFar rows n start now held strays) where
    -- after a member that is read into its field: the last argument is λ made. inr (refl, .. inl (c.in-KEY.is, made, refl))
    pub record_field : {T : Type 0} (form : T → Data) (can : Data → Bool) (k : List ℕ) (s rest : List Token) (o : Option T) (new : List (Option Data)) → rise_above None (names rows) ≡ true
        → read_key now ≡ Some (Some k, s) → (v : IsRead form can n s rest o) → length rest < length now
        → (MatchOption (option_map form o) (can v.means ≡ false) (λ e. v.means ≡ e) → Puts (names rows) (tests rows) k v.means held new) → RecordSoFar rows n start rest new strays
    record_field form can k s rest o new rise key v less puts = record {
      found = put k v.means r.found;
      so_far = turn.member_more n start now r.found r.so_far k s rest v.means key v.read less;
      are = row.put_so_far (names rows) (tests rows) k v.means held new strays r.found rise (puts (row.made_data form can o v.means v.made)) r.are;
    }

    -- after a member with another key
    pub record_stray : (k : List ℕ) (s rest : List Token) → AreApart k (names rows)
        → read_key now ≡ Some (Some k, s) → ((d : Data) × (data_of n s ≡ Some (d, rest))) → length rest < length now → RecordSoFar rows n start rest held true
    record_stray k s rest apart key v less = record {
      found = put k v.0 r.found;
      so_far = turn.member_more n start now r.found r.so_far k s rest v.0 key v.1 less;
      are = row.put_stray (names rows) k v.0 r.found (not_known k (names rows) apart);
    }

  -- where there is no object
  pub no_object : {T : Type 0} (form : T → Data) (n : ℕ) (start rest : List Token) → ((d : Data) × (data_of n start ≡ Some (d, rest)) × (is_object d ≡ false)) → IsRead form (fits (struct rows)) n start rest None
  no_object form n start rest v = record { means = v.0; read = v.1; made = other v.0 v.2 }
    where
      other : (d : Data) → is_object d ≡ false → fits (struct rows) d ≡ false
      other null e = refl
      other (boolean b) e = refl
      other (number x) e = refl
      other (string s) e = refl
      other (array ds) e = refl
      other (object ms) e = absurd (cc)

  module _ {T : Type 0} (form : T → Data) (t : Token) (n m : ℕ) (behind ts now rest : List Token) (held : List (Option Data)) (strays : Bool) (opens : OpensObject t n m behind ts) (r : RecordSoFar rows m ts now held strays) (end : read_key now ≡ Some (None, rest)) where
    -- where the object ends: there were strays
    pub record_strays : strays ≡ true → IsRead form (fits (struct rows)) n (t ∷ ts) rest None
    record_strays e =
        let are : AreSoFar (names rows) (tests rows) held true r.found = subst (λ b. AreSoFar (names rows) (tests rows) held b r.found) e r.are in
        record {
          means = object r.found;
          read = turn.object_done t n m ts now rest opens.1 r.found opens.0 r.so_far end;
          made = struct_is rows (object r.found) ∙ row.strays_fail (names rows) (tests rows) r.found are;
        }

    -- a field is absent
    pub record_lacks : rise_above None (names rows) ≡ true → strays ≡ false → LacksOne held → IsRead form (fits (struct rows)) n (t ∷ ts) rest None
    record_lacks rise e none =
        let are : AreSoFar (names rows) (tests rows) held false r.found = subst (λ b. AreSoFar (names rows) (tests rows) held b r.found) e r.are in
        let long : length (names rows) ≡ length (tests rows) = length-map rows (λ r. r.0) ∙ sym (length-map rows (λ r. test r.1)) in
        record {
          means = object r.found;
          read = turn.object_done t n m ts now rest opens.1 r.found opens.0 r.so_far end;
          made = struct_is rows (object r.found) ∙ row.not_all_held (names rows) (tests rows) held r.found long rise are (lacks held none);
        }

    -- all fields are there
    pub record_whole : (ds : List Data) (x : T) → strays ≡ false → held ≡ map (λ d. Some d) ds → object (members_under (names rows) (map (λ d. Some d) ds)) ≡ form x → IsRead form (fits (struct rows)) n (t ∷ ts) rest (Some x)
    record_whole ds x e all is =
        let are : AreSoFar (names rows) (tests rows) (map (λ d. Some d) ds) false r.found = subst (λ hs. AreSoFar (names rows) (tests rows) hs false r.found) all (subst (λ b. AreSoFar (names rows) (tests rows) held b r.found) e r.are) in
        record {
          means = object r.found;
          read = turn.object_done t n m ts now rest opens.1 r.found opens.0 r.so_far end;
          made = ap object (row.all_held (names rows) (tests rows) ds r.found are) ∙ is;
        }

-- ---- variants: the names and rows are those of the shape

-- a text, of which o was made
pub text_read : {T : Type 0} (form : T → Data) (can : Data → Bool) (n : ℕ) (t : Token) (k : List ℕ) (ts : List Token) (o : Option T) → t ≡ Token.string k → Made form can o (string k) → IsRead form can n (t ∷ ts) ts o
text_read form can n t k ts o is made = record { means = string k; read = ap (λ u. data_of n (u ∷ ts)) is ∙ turn.text_said n k ts; made = made }

module _ {T : Type 0} (form : T → Data) (ns : List (List ℕ)) (rows : List (List ℕ × Held)) where
  -- where there is neither a text nor an object
  pub no_text_no_object : (n : ℕ) (t : Found) (ts rest : List Token) → ((s : Bor (List ℕ)) → t ≡ token.String s → ⊥) → ((d : Data) × (data_of n (token_of t ∷ ts) ≡ Some (d, rest)) × (is_object d ≡ false)) → IsRead form (fits (variants ns rows)) n (token_of t ∷ ts) rest None
  no_text_no_object n t ts rest never v =
      let other = named.no_variant t v.0 never (turn.starts n (token_of t) ts rest v.0 v.1) v.2 in
      record { means = v.0; read = v.1; made = no_variant ns rows v.0 other }

  -- the invariant at the start; it is VariantSoFar FORM CAN l.depth l.fn.reader l.reader (option_map (λ s. s.now) l.before)
  -- l.strays l.read
  pub variant_start : (n : ℕ) (ts now : List Token) → now ≡ ts → VariantSoFar form (fits (variants ns rows)) n ts now None false None
  variant_start n ts now same = subst (λ s. VariantSoFar form (fits (variants ns rows)) n ts s None false None) (sym same) (named.variant_start form (fits (variants ns rows)) n ts)

  module _ (n : ℕ) (start now : List Token) (b : Option (Bor (List ℕ))) (strays : Bool) (o : Option T) (v : VariantSoFar form (fits (variants ns rows)) n start now (option_map (λ s. s.now) b) strays o) where
    -- after the first member, or one with the same key
    pub variant_same : (k : List ℕ) (s rest : List Token) (p : Option T) → option_map_or (λ l. not (bytes_eq l.now k)) b false ≡ false → read_key now ≡ Some (Some k, s)
        → IsReadUnder k form (fits (variants ns rows)) n s rest p → length rest < length now → VariantSoFar form (fits (variants ns rows)) n start rest (Some k) strays p
    variant_same k s rest p same key r less = named.variant_same form (fits (variants ns rows)) n start now (option_map (λ s. s.now) b) strays o v k s rest p (named.told b k false same) key r less

    -- after one with another key
    pub variant_other : (k : List ℕ) (s rest : List Token) → option_map_or (λ l. not (bytes_eq l.now k)) b false ≡ true → read_key now ≡ Some (Some k, s)
        → ((d : Data) × (data_of n s ≡ Some (d, rest))) → length rest < length now → VariantSoFar form (fits (variants ns rows)) n start rest (option_map (λ s. s.now) b) true o
    variant_other k s rest other key r less = named.variant_stray form (fits (variants ns rows)) n start now (option_map (λ s. s.now) b) strays o v k s rest o r.0 (named.told b k true other) key r.1 less

  module _ (t : Token) (n m : ℕ) (behind ts now rest : List Token) (b : Option (List ℕ)) (strays : Bool) (o : Option T) (opens : OpensObject t n m behind ts) (v : VariantSoFar form (fits (variants ns rows)) m ts now b strays o) (end : read_key now ≡ Some (None, rest)) where
    -- where the object ends: there were others
    pub variant_strays : strays ≡ true → IsRead form (fits (variants ns rows)) n (t ∷ ts) rest None
    variant_strays e = record {
      means = object v.found;
      read = turn.object_done t n m ts now rest opens.1 v.found opens.0 v.so_far end;
      made = named.strays_made form (fits (variants ns rows)) (no_variant ns rows) b o v.found (subst (λ s. IsVariantOf form (fits (variants ns rows)) b s o v.found) e v.is);
    }

    -- there were none
    pub variant_whole : strays ≡ false → IsRead form (fits (variants ns rows)) n (t ∷ ts) rest o
    variant_whole e = record {
      means = object v.found;
      read = turn.object_done t n m ts now rest opens.1 v.found opens.0 v.so_far end;
      made = named.variant_made form (fits (variants ns rows)) (no_variant ns rows) b o v.found (subst (λ s. IsVariantOf form (fits (variants ns rows)) b s o v.found) e v.is);
    }

-- of variants that are no name alone: where there is no object
pub only_object : {T : Type 0} (form : T → Data) (rows : List (List ℕ × Held)) (n : ℕ) (start rest : List Token) → ((d : Data) × (data_of n start ≡ Some (d, rest)) × (is_object d ≡ false)) → IsRead form (fits (variants [] rows)) n start rest None
only_object form rows n start rest v = record { means = v.0; read = v.1; made = other v.0 v.2 }
  where
    other : (d : Data) → is_object d ≡ false → fits (variants [] rows) d ≡ false
    other null e = refl
    other (boolean b) e = refl
    other (number x) e = refl
    other (string s) e = refl
    other (array ds) e = refl
    other (object ms) e = absurd (cc)

-- the reader of what a variant holds: `k` is the key, which is the variant's name
module _ {T U : Type 0} (form : T → Data) (can : Data → Bool) (inner : U → Data) (inner_can : Data → Bool) (n : ℕ) (s rest : List Token) (k name : List ℕ) (o : Option U) where
  -- c.in-NAME.is, c.in-Some.is, c.in_ok-READ.ensures.ok, and that the form of the variant is this
  pub variant_of : (u : U) (x : T) → k ≡ name → o ≡ Some u → IsRead inner inner_can n s rest o → under name (inner u) ≡ form x → IsReadUnder k form can n s rest (Some x)
  variant_of u x key some v is = record {
    means = v.means;
    read = v.read;
    made = ap (λ l. under l v.means) key ∙ ap (under name) (told_some o u (inner_can v.means ≡ false) (λ y. v.means ≡ inner y) some v.made) ∙ is;
  }

  -- and that the shape of the variant rejects what the reader of what it holds rejects: λ d e. slot_is (one shape.X) d ∙ e
  pub no_variant_of : k ≡ name → o ≡ None → IsRead inner inner_can n s rest o → ((d : Data) → inner_can d ≡ false → can (under name d) ≡ false) → IsReadUnder k form can n s rest None
  no_variant_of key none v fails = record {
    means = v.means;
    read = v.read;
    made = ap (λ l. can (under l v.means)) key ∙ fails v.means (told_none o (inner_can v.means ≡ false) (λ y. v.means ≡ inner y) none v.made);
  }

-- under none of the known names: c.in_default.not-NAME of each, and c.in_ok-pass-in_default.ensures.ok
pub no_variant_there : {T : Type 0} (form : T → Data) (ns : List (List ℕ)) (rows : List (List ℕ × Held)) (n : ℕ) (s rest : List Token) (k : List ℕ) → IsApart k rows → ((d : Data) × (data_of n s ≡ Some (d, rest))) → IsReadUnder k form (fits (variants ns rows)) n s rest None
no_variant_there form ns rows n s rest k apart v = record { means = v.0; read = v.1; made = no_case ns rows k v.0 apart }

-- what is known of an option, known of what it is
pub read_as : {T : Type 0} (form : T → Data) (can : Data → Bool) (n : ℕ) (s rest : List Token) (o p : Option T) → o ≡ p → IsRead form can n s rest o → IsRead form can n s rest p
read_as form can n s rest o p same v = subst (λ q. IsRead form can n s rest q) same v

-- ---- lists

abbrev pub OpensArray : Token → ℕ → ℕ → List Token → List Token → Type 0
OpensArray t n m now ts = (t ≡ begin_array) × (n ≡ suc m) × (now ≡ ts)

-- the invariant: ListSoFar FORM CAN l.depth l.fn.reader l.reader l.good l.list.items
pub record ListSoFar {T : Type 0} (form : T → Data) (can : Data → Bool) (n : ℕ) (start rest : List Token) (good : Bool) (xs : List T) : Type 0 where
  pub found : List Data
  pub so_far : ItemsSoFar n start rest found
  pub made : AreMade form can good xs found

module _ {T : Type 0} (form : T → Data) (can : Data → Bool) where
  -- where there is no array
  pub no_array : {V : Type 0} (whole : V → Data) (n : ℕ) (start rest : List Token) → ((d : Data) × (data_of n start ≡ Some (d, rest)) × (is_array d ≡ false)) → IsRead whole (is_list can) n start rest None
  no_array whole n start rest v = record { means = v.0; read = v.1; made = other v.0 v.2 }
    where
      other : (d : Data) → is_array d ≡ false → is_list can d ≡ false
      other null e = refl
      other (boolean b) e = refl
      other (number x) e = refl
      other (string s) e = refl
      other (array ds) e = absurd (cc)
      other (object ms) e = refl

  -- the invariant at the start
  pub list_start : (n : ℕ) (ts now : List Token) → now ≡ ts → ListSoFar form can n ts now true []
  list_start n ts now same = record { found = []; so_far = subst (λ s. ItemsSoFar n ts s []) (sym same) (turn.items_start n ts); made = refl }

  module _ (n : ℕ) (start now : List Token) (good : Bool) (xs : List T) (l : ListSoFar form can n start now good xs) where
    -- after an item that was pushed; of it and of the one below the first equation is what `next_item` says
    pub list_item : (s rest : List Token) (x : T) (ys : List T) → (after_end_array now ≡ None) × (now ≡ s) → IsRead form can n s rest (Some x) → length rest < length now → ys ≡ xs ++ x ∷ [] → ListSoFar form can n start rest good ys
    list_item s rest x ys going v less more = record {
      found = l.found ++ v.means ∷ [];
      so_far = turn.item_more n start now l.found l.so_far rest v.means going.0 (ap (data_of n) going.1 ∙ v.read) less;
      made = subst (λ zs. AreMade form can good zs (l.found ++ v.means ∷ [])) (sym more) (turn.made_more form can good xs x l.found v.means v.made l.made);
    }

    -- after one of which nothing was made
    pub list_bad : (s rest : List Token) → (after_end_array now ≡ None) × (now ≡ s) → IsRead form can n s rest None → length rest < length now → ListSoFar form can n start rest false xs
    list_bad s rest going v less = record {
      found = l.found ++ v.means ∷ [];
      so_far = turn.item_more n start now l.found l.so_far rest v.means going.0 (ap (data_of n) going.1 ∙ v.read) less;
      made = turn.made_bad form can xs l.found v.means v.made;
    }

  module _ (t : Token) (n m : ℕ) (behind ts now : List Token) (good : Bool) (xs : List T) (opens : OpensArray t n m behind ts) (l : ListSoFar form can m ts now good xs) where
    -- where `next_item` fails
    pub no_item : NoItems m now → data_of n (t ∷ ts) ≡ None
    no_item none = turn.array_stop t n m ts opens.1 opens.0 (turn.items_stop m ts now l.found l.so_far none)

    -- where the reader of an item fails
    pub item_fails : (s : List Token) → (after_end_array now ≡ None) × (now ≡ s) → data_of m s ≡ None → data_of n (t ∷ ts) ≡ None
    item_fails s going none = turn.array_stop t n m ts opens.1 opens.0 (turn.item_stop m ts now l.found l.so_far going.0 (ap (data_of m) going.1 ∙ none))

    -- where the array ends
    pub list_whole : {V : Type 0} (whole : V → Data) (v : V) (rest : List Token) → good ≡ true → list_form (map form xs) ≡ whole v → after_end_array now ≡ Some rest → IsRead whole (is_list can) n (t ∷ ts) rest (Some v)
    list_whole whole v rest e is end =
        let made : AreMade form can true xs l.found = subst (λ b. AreMade form can b xs l.found) e l.made in
        record {
          means = array (items_before l.found no_items);
          read = turn.array_done t n m ts now rest opens.1 l.found opens.0 l.so_far end;
          made = ap array (turn.to_items_is l.found) ∙ ap list_form made ∙ is;
        }

    pub list_refused : {V : Type 0} (whole : V → Data) (rest : List Token) → good ≡ false → after_end_array now ≡ Some rest → IsRead whole (is_list can) n (t ∷ ts) rest None
    list_refused whole rest e end =
        let made : AreMade form can false xs l.found = subst (λ b. AreMade form can b xs l.found) e l.made in
        record {
          means = array (items_before l.found no_items);
          read = turn.array_done t n m ts now rest opens.1 l.found opens.0 l.so_far end;
          made = turn.all_or_not can l.found ∙ made;
        }
