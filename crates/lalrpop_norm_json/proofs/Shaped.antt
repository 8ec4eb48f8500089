-- What has a shape, in the terms of the readers.
use Rattle.std.specs.Prelude.{⊤}
use Rattle.std.proofs.Common.{◌≡◌, ◌≢◌, Option, Some, None, MatchOption, subst, ℕ, List, [], ◌∷◌, map, Bool, true, false, ◌&&◌, cond, refl, sym, ap, ◌∙◌}
use Rattle.std.proofs.lemmas.Slice.Eq.{bytes_eq-Decides}
use Rattle.std.specs.Str.{bytes_eq}
use Rattle.serde_json.specs.Data.{Data, null, boolean, number, unsigned, negative, float, string, array, object, Items, no_items, item, Members, no_members, member}
use Rattle.json_records.specs.Reading.{under, is_object, is_array, may_be, is_list, pass_all, is_text, is_natural, is_short, is_truth}
use Rattle.json_records.specs.Fields.{pass, is_record}
use Rattle.json_records.specs.Variants.{is_variant}
use Rattle.lalrpop_norm_json.specs.Shapes as shape
use Rattle.lalrpop_norm_json.specs.Shapes.{ShapeName, Slot, one, maybe, many, Held, Shape, Arrays, each, nothing, held, held_by, fits, fits_items, fits_members, struct, struct_of, variants, variant_of, slot, optional, arrayed, is, is_among}

-- ---- the test of a slot, as its reader has it

abbrev pub test_of : ShapeName → Data → Bool
test_of shape.text = is_text
test_of shape.natural = is_natural
test_of shape.short = is_short
test_of shape.truth = is_truth
test_of n = is n

abbrev pub test : Slot → Data → Bool
test (one n) = test_of n
test (maybe n) = may_be (test_of n)
test (many n) = is_list (test_of n)

text_is : (d : Data) → is shape.text d ≡ is_text d
text_is null = refl
text_is (boolean b) = refl
text_is (number n) = refl
text_is (string t) = refl
text_is (array ds) = refl
text_is (object ms) = refl

natural_is : (d : Data) → is shape.natural d ≡ is_natural d
natural_is null = refl
natural_is (boolean b) = refl
natural_is (number (unsigned n)) = refl
natural_is (number (negative n)) = refl
natural_is (number (float n)) = refl
natural_is (string t) = refl
natural_is (array ds) = refl
natural_is (object ms) = refl

short_is : (d : Data) → is shape.short d ≡ is_short d
short_is null = refl
short_is (boolean b) = refl
short_is (number (unsigned n)) = refl
short_is (number (negative n)) = refl
short_is (number (float n)) = refl
short_is (string t) = refl
short_is (array ds) = refl
short_is (object ms) = refl

truth_is : (d : Data) → is shape.truth d ≡ is_truth d
truth_is null = refl
truth_is (boolean b) = refl
truth_is (number n) = refl
truth_is (string t) = refl
truth_is (array ds) = refl
truth_is (object ms) = refl

pub name_is : (n : ShapeName) (d : Data) → is n d ≡ test_of n d
name_is shape.text d = text_is d
name_is shape.natural d = natural_is d
name_is shape.short d = short_is d
name_is shape.truth d = truth_is d
name_is n d = refl

optional_is : (s : Shape) (d : Data) → fits (optional s) d ≡ may_be (fits s) d
optional_is s null = refl
optional_is s (boolean b) = refl
optional_is s (number n) = refl
optional_is s (string t) = refl
optional_is s (array ds) = refl
optional_is s (object ms) = refl

each_is : (n : ShapeName) (ds : Items) → fits_items (each n) ds ≡ pass_all (test_of n) ds
each_is n no_items = refl
each_is n (item d ds) = ap (λ b. b && fits_items (each n) ds) (name_is n d) ∙ ap (λ b. test_of n d && b) (each_is n ds)

list_is : (n : ShapeName) (d : Data) → fits (arrayed (each n)) d ≡ is_list (test_of n) d
list_is n null = refl
list_is n (boolean b) = refl
list_is n (number x) = refl
list_is n (string t) = refl
list_is n (array ds) = each_is n ds
list_is n (object ms) = refl

pub slot_is : (p : Slot) (d : Data) → fits (slot p) d ≡ test p d
slot_is (one n) d = name_is n d
slot_is (maybe n) d = optional_is (shape.shape n) d ∙ may_be_is (is n) (test_of n) (name_is n) d
  where
    may_be_is : (p q : Data → Bool) → ((e : Data) → p e ≡ q e) → (e : Data) → may_be p e ≡ may_be q e
    may_be_is p q same null = refl
    may_be_is p q same (boolean b) = same (boolean b)
    may_be_is p q same (number x) = same (number x)
    may_be_is p q same (string t) = same (string t)
    may_be_is p q same (array ds) = same (array ds)
    may_be_is p q same (object ms) = same (object ms)
slot_is (many n) d = list_is n d

-- ---- records

members_are : (rows : List (List ℕ × Slot)) (ms : Members) → fits_members (struct_of rows) ms ≡ pass (map (λ r. r.0) rows) (map (λ r. test r.1) rows) ms
members_are [] no_members = refl
members_are [] (member k d ms) = refl
members_are (r ∷ rows) no_members = refl
members_are (r ∷ rows) (member k d ms) =
    ap (λ b. bytes_eq k r.0 && (b && fits_members (struct_of rows) ms)) (slot_is r.1 d) ∙ ap (λ b. bytes_eq k r.0 && (test r.1 d && b)) (members_are rows ms)

pub struct_is : (rows : List (List ℕ × Slot)) (d : Data) → fits (struct rows) d ≡ is_record (map (λ r. r.0) rows) (map (λ r. test r.1) rows) d
struct_is rows null = refl
struct_is rows (boolean b) = refl
struct_is rows (number x) = refl
struct_is rows (string t) = refl
struct_is rows (array ds) = refl
struct_is rows (object ms) = members_are rows ms

-- a record that the reader rejects has not the shape
pub no_record : (rows : List (List ℕ × Slot)) (d : Data) → is_record (map (λ r. r.0) rows) (map (λ r. test r.1) rows) d ≡ false → fits (struct rows) d ≡ false
no_record rows d e = struct_is rows d ∙ e

-- ---- variants

nothing_fits : (d : Data) → fits nothing d ≡ false
nothing_fits null = refl
nothing_fits (boolean b) = refl
nothing_fits (number n) = refl
nothing_fits (string s) = refl
nothing_fits (array ds) = refl
nothing_fits (object ms) = refl

another : (k l : List ℕ) → k ≢ l → bytes_eq k l ≡ false
another k l other = at (bytes_eq k l) refl
  where
    at : (b : Bool) → bytes_eq k l ≡ b → bytes_eq k l ≡ false
    at true e = absurd (other ((bytes_eq-Decides k l).0 e))
    at false e = e

-- the name is none of these
abbrev pub IsApart : List ℕ → List (List ℕ × Held) → Type 0
IsApart k [] = ⊤
IsApart k (r ∷ rows) = (k ≢ r.0) × IsApart k rows

holds_nothing : (k : List ℕ) (rows : List (List ℕ × Held)) → IsApart k rows → held_by rows k ≡ nothing
holds_nothing k [] apart = refl
holds_nothing k (r ∷ rows) apart = ap (λ b. cond b (held r.1) (held_by rows k)) (another k r.0 apart.0) ∙ holds_nothing k rows apart.1

-- under none of the known names there is no variant
pub no_case : (ns : List (List ℕ)) (rows : List (List ℕ × Held)) (k : List ℕ) (d : Data) → IsApart k rows → fits (variants ns rows) (under k d) ≡ false
no_case ns rows k d apart = ap (λ s. fits s d) (holds_nothing k rows apart) ∙ nothing_fits d

abbrev pub AreApart : List ℕ → List (List ℕ) → Type 0
AreApart k [] = ⊤
AreApart k (n ∷ ns) = (k ≢ n) × AreApart k ns

among_none : (k : List ℕ) (ns : List (List ℕ)) → AreApart k ns → is_among k ns ≡ false
among_none k [] apart = refl
among_none k (n ∷ ns) apart = rw (another k n apart.0) (among_none k ns apart.1)

-- none of the known names alone
pub no_name : (ns : List (List ℕ)) (rows : List (List ℕ × Held)) (k : List ℕ) → AreApart k ns → fits (variants ns rows) (string k) ≡ false
no_name ns rows k apart = among_none k ns apart

-- ---- what an option that was matched says

pub told_none : {V : Type 0} (o : Option V) (Q : Type 0) (P : V → Type 0) → o ≡ None → MatchOption o Q P → Q
told_none None Q P e m = m
told_none (Some v) Q P e m = absurd (cc)

pub told_some : {V : Type 0} (o : Option V) (v : V) (Q : Type 0) (P : V → Type 0) → o ≡ Some v → MatchOption o Q P → P v
told_some None v Q P e m = absurd (cc)
told_some (Some w) v Q P e m = let same : w ≡ v = cc in subst P same m
