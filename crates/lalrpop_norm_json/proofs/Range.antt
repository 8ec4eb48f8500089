-- The natural numbers in what is read from a text are below 2^64.
use Rattle.std.proofs.Common.{◌≡◌, ℕ, ◌<◌, ◌^◌, ◌&&◌, ◌==◌, nat_lt, nat_le, pos, neg_ℤ, drop, slice_index, List, Bool, true, false, if◌then◌else◌, Option, Some, None, option_map, option_and_then, IfSome, Ordering, Less, Equal, Greater, refl, subst, ltb-true}
use Rattle.std.specs.Prelude.{⊤}
use Rattle.std.specs.Float.{binary64, float_is_finite}
use Rattle.std.specs.Float.Numeral.{minus, Parts, scan_numeral, numeral_digits, nearest_float}
use Rattle.std.specs.Ordering.{match_ordering}
use Rattle.json.specs.Json as json
use Rattle.json.specs.Lex.{tokens}
use Rattle.serde_json.specs.Data.{Num, unsigned, negative, float, Data, null, boolean, number, string, array, object, Items, no_items, item, Members, no_members, member, put}
use Rattle.serde_json.specs.Read.{is_integer, float_of, number_from, number_of, of_json, of_items, of_members, max_depth, read}

-- each natural number in it is below 2^64
abbrev mutual
  pub IsInRange : Data → Type 0
  IsInRange null = ⊤
  IsInRange (boolean b) = ⊤
  IsInRange (number (unsigned n)) = n < 2 ^ 64
  IsInRange (number (negative z)) = ⊤
  IsInRange (number (float x)) = ⊤
  IsInRange (string s) = ⊤
  IsInRange (array ds) = ItemsInRange ds
  IsInRange (object ms) = MembersInRange ms

  pub ItemsInRange : Items → Type 0
  ItemsInRange no_items = ⊤
  ItemsInRange (item d ds) = IsInRange d × ItemsInRange ds

  pub MembersInRange : Members → Type 0
  MembersInRange no_members = ⊤
  MembersInRange (member k d ms) = IsInRange d × MembersInRange ms

-- ---- numbers

abbrev NumInRange : Num → Type 0
NumInRange x = IsInRange (number x)

record OneInRange (o : Option Num) : Type 0 where
  pub holds : IfSome o NumInRange

one_of_two : (b : Bool) (x y : Option Num) → OneInRange x → OneInRange y → OneInRange (if b then x else y)
one_of_two true x y p q = p
one_of_two false x y p q = q

float_in_range : (b : Bool) (p : Parts) → OneInRange (float_of b p)
float_in_range b p =
    let x = nearest_float binary64 b p in
    one_of_two (float_is_finite x) (Some (float x)) None (record { holds = tt }) (record { holds = tt })

unsigned_in_range : (n : ℕ) (a b : Bool) (o : Option Num) → nat_lt n (2 ^ 64) ≡ b → OneInRange o → OneInRange (if a && b then Some (unsigned n) else o)
unsigned_in_range n true true o e p = record { holds = ltb-true n (2 ^ 64) e }
unsigned_in_range n true false o e p = p
unsigned_in_range n false b o e p = p

parts_in_range : (b : Bool) (p : Parts) → OneInRange (number_from b p)
parts_in_range false p =
    let n = numeral_digits p in
    unsigned_in_range n (is_integer p) (nat_lt n (2 ^ 64)) (float_of false p) refl (float_in_range false p)
parts_in_range true p =
    let n = numeral_digits p in
    one_of_two (is_integer p && nat_lt 0 n && nat_le n (2 ^ 63)) (Some (negative (neg_ℤ (pos n)))) (float_of true p) (record { holds = tt })
    (float_in_range true p)

any_number : (s : List ℕ) → OneInRange (number_of s)
unfolding number_of
any_number s =
    let below = scan_numeral (drop 1 s) in
    let above = scan_numeral s in
    one_of_two (slice_index s 0 == minus) (number_from true below) (number_from false above) (parts_in_range true below)
    (parts_in_range false above)

number_in_range : (s : List ℕ) → IfSome (number_of s) NumInRange
number_in_range s = (any_number s).holds

-- ---- values

if_mapped : {A B : Type 0} (P : A → Type 0) (Q : B → Type 0) (h : A → B) → ((a : A) → P a → Q (h a)) → (o : Option A) → IfSome o P → IfSome (option_map h o) Q
if_mapped P Q h k None x = tt
if_mapped P Q h k (Some a) x = k a x

if_chained : {A B : Type 0} (P : A → Type 0) (Q : B → Type 0) (h : A → Option B) → ((a : A) → P a → IfSome (h a) Q) → (o : Option A) → IfSome o P → IfSome (option_and_then h o) Q
if_chained P Q h k None x = tt
if_chained P Q h k (Some a) x = k a x

one_of_three : (o : Ordering) (a b c : Members) → MembersInRange a → MembersInRange b → MembersInRange c → MembersInRange (match_ordering o a b c)
one_of_three Less a b c p q r = p
one_of_three Equal a b c p q r = q
one_of_three Greater a b c p q r = r

put_in_range : (k : List ℕ) (d : Data) (ms : Members) → IsInRange d → MembersInRange ms → MembersInRange (put k d ms)
put_in_range k d no_members p q = (p, q)
put_in_range k d (member l e ms) p q =
    one_of_three _ (member k d (member l e ms)) (member l d ms) (member l e (put k d ms)) (p, q) (p, q.1) (q.0, put_in_range k d ms p q.1)

mutual
  json_in_range : (j : json.Json) → IfSome (of_json j) IsInRange
  json_in_range json.null = tt
  json_in_range (json.boolean b) = tt
  json_in_range (json.number s) = if_mapped NumInRange IsInRange number (λ x p. p) (number_of s) (number_in_range s)
  json_in_range (json.string s) = tt
  json_in_range (json.array js) = if_mapped ItemsInRange IsInRange array (λ ds p. p) _ (items_in_range js)
  json_in_range (json.object ms) = if_mapped MembersInRange IsInRange object (λ ms p. p) _ (members_in_range ms no_members tt)

  items_in_range : (js : json.Items) → IfSome (of_items js) ItemsInRange
  items_in_range json.no_items = tt
  items_in_range (json.item j js) =
      if_chained IsInRange ItemsInRange _ (λ d p. if_mapped ItemsInRange ItemsInRange (item d) (λ ds q. (p, q)) _ (items_in_range js)) _ (json_in_range j)

  members_in_range : (ms : json.Members) (found : Members) → MembersInRange found → IfSome (of_members ms found) MembersInRange
  members_in_range json.no_members found p = p
  members_in_range (json.member k j ms) found p =
      if_chained IsInRange MembersInRange _ (λ d q. members_in_range ms (put k d found) (put_in_range k d found q p)) _ (json_in_range j)

whole_in_range : (o : Option json.Json) → IfSome (option_and_then of_json o) IsInRange
whole_in_range None = tt
whole_in_range (Some j) = json_in_range j

pub read_in_range : (text : List ℕ) (d : Data) → read text ≡ Some d → IsInRange d
read_in_range text d e =
    subst (λ (o : Option Data). IfSome o IsInRange) e
    (whole_in_range (option_and_then (λ p. json.if_last p.0 p.1) (json.value max_depth (tokens text))))
