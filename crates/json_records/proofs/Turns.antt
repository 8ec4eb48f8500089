-- Items and members that are read one after another.
use Rattle.std.proofs.Common.{◌≡◌, ◌⊎◌, inl, inr, ℕ, zero, suc, ◌-◌, ◌<◌, ◌≤◌, List, [], ◌∷◌, ◌++◌, length, Option, Some, None, option_map, refl, sym, ap, ◌∙◌, arith}
use Rattle.json.specs.Token.{Token}
use Rattle.json.specs.Reads.{token_of}
use Rattle.json.specs.declared.token.Token.{Token as Found}
use Rattle.json.specs.declared.token.Token.TheVariants.{BeginObject, EndObject, BeginArray, EndArray, Key, String, Number, Bool, Null, Bad}
use Rattle.std.specs.Prelude.{Bool as Truth, true, false}
use Rattle.std.specs.Option.{option_map_or}
use Rattle.std.proofs.Common.{Result, Ok, Err, subst, ◌&&◌}
use Rattle.std.proofs.lemmas.List.{map-append}
use Rattle.std.specs.List.{list_all}
use Rattle.serde_json.specs.View.{items_of as to_items}
use Rattle.std.specs.Prelude.{OnOk, IfOk}
use Rattle.std.specs.Result.{is_err, IsErrAnd}
use Rattle.serde_json.specs.Find.{as_u64}
use Rattle.json.specs.Json.{parse_map, after_end_array, read_key, items, members, value}
use Rattle.json.proofs.Grammar.{read_key-shorter, value_is, value-begin_array, value-begin_object}
use Rattle.std.proofs.Common.{Bor, ◌^◌, nat_lt, MatchOption, rules}
use Rattle.serde_json.specs.Data.{Num, unsigned, negative, float, Data, null, boolean, number, string, array, object, Items, no_items, item, Members, no_members, put}
use Rattle.serde_json.specs.Read.{number_of, of_json, converted}
use Rattle.json_records.proofs.Saying.{of_array, of_object, item_read, nothing, items_over, member_read, member_refused, no_key_there, members_over}
use Rattle.json_records.specs.Reading.{IsRead, may_be, is_list, pass_all, AreMade, is_text, is_truth, is_natural, is_short, is_object, is_array, data_of, items_of, members_of, MembersSoFar, NoMembers, items_before, ItemsSoFar, NoItems}

-- ---- no value begins there

pub no_data : (n : ℕ) → data_of n [] ≡ None
no_data n = ap (converted of_json) (value_is n [])

pub text_said : (n : ℕ) (s : List ℕ) (ts : List Token) → data_of n (Token.string s ∷ ts) ≡ Some (string s, ts)
text_said n s ts = ap (converted of_json) (value_is n (Token.string s ∷ ts))

pub truth_said : (n : ℕ) (b : Truth) (ts : List Token) → data_of n (Token.boolean b ∷ ts) ≡ Some (boolean b, ts)
truth_said n b ts = ap (converted of_json) (value_is n (Token.boolean b ∷ ts))

pub null_said : (n : ℕ) (ts : List Token) → data_of n (Token.null ∷ ts) ≡ Some (null, ts)
null_said n ts = ap (converted of_json) (value_is n (Token.null ∷ ts))

pub number_said : (n : ℕ) (s : List ℕ) (x : Num) (ts : List Token) → number_of s ≡ Some x → data_of n (Token.number s ∷ ts) ≡ Some (number x, ts)
number_said n s x ts e = ap (converted of_json) (value_is n (Token.number s ∷ ts)) ∙ rw e refl

pub number_lost : (n : ℕ) (s : List ℕ) (ts : List Token) → number_of s ≡ None → data_of n (Token.number s ∷ ts) ≡ None
number_lost n s ts e = ap (converted of_json) (value_is n (Token.number s ∷ ts)) ∙ rw e refl

-- which number it is, where it is known which natural one
number_at : (o : Option Num) (r : Option ℕ) → Some r ≡ option_map as_u64 o → (x : Num) × (o ≡ Some x) × (as_u64 x ≡ r)
number_at None r e = absurd (cc)
number_at (Some x) r e = (x, refl, ap (λ o. option_map_or (λ y. y) o r) (sym e))

pub number_in_range : (s : List ℕ) (r : Option ℕ) → Some r ≡ option_map as_u64 (number_of s) → (x : Num) × (number_of s ≡ Some x) × (as_u64 x ≡ r)
number_in_range s r e = number_at (number_of s) r e

number_out_at : (o : Option Num) → None ≡ option_map as_u64 o → o ≡ None
number_out_at None e = refl
number_out_at (Some x) e = absurd (cc)

pub number_out_of_range : (s : List ℕ) → None ≡ option_map as_u64 (number_of s) → number_of s ≡ None
number_out_of_range s e = number_out_at (number_of s) e

-- a token that is all of a value but a number
abbrev pub is_plain : Found → Truth
is_plain (String s) = true
is_plain (Bool b) = true
is_plain Null = true
is_plain _ = false

pub plain_said : (n : ℕ) (t : Found) (ts : List Token) → is_plain t ≡ true → (d : Data) × (data_of n (token_of t ∷ ts) ≡ Some (d, ts))
plain_said n (String s) ts e = (string s.now, text_said n s.now ts)
plain_said n (Bool b) ts e = (boolean b, truth_said n b ts)
plain_said n Null ts e = (null, null_said n ts)
plain_said n BeginObject ts e = absurd (cc)
plain_said n EndObject ts e = absurd (cc)
plain_said n BeginArray ts e = absurd (cc)
plain_said n EndArray ts e = absurd (cc)
plain_said n (Key s) ts e = absurd (cc)
plain_said n (Number s) ts e = absurd (cc)
plain_said n Bad ts e = absurd (cc)

-- a token that begins no value
abbrev pub begins : Found → Truth
begins EndObject = false
begins EndArray = false
begins (Key s) = false
begins Bad = false
begins _ = true

pub none_begins : (n : ℕ) (t : Found) (ts : List Token) → begins t ≡ false → data_of n (token_of t ∷ ts) ≡ None
none_begins n EndObject ts e = ap (converted of_json) (value_is n (Token.end_object ∷ ts))
none_begins n EndArray ts e = ap (converted of_json) (value_is n (Token.end_array ∷ ts))
none_begins n (Key s) ts e = ap (converted of_json) (value_is n (Token.key s.now ∷ ts))
none_begins n Bad ts e = ap (converted of_json) (value_is n (Token.bad ∷ ts))
none_begins n (String s) ts e = absurd (cc)
none_begins n (Bool b) ts e = absurd (cc)
none_begins n Null ts e = absurd (cc)
none_begins n BeginObject ts e = absurd (cc)
none_begins n BeginArray ts e = absurd (cc)
none_begins n (Number s) ts e = absurd (cc)

-- at a level too many nothing opens
pub no_level : (t : Token) (ts : List Token) (n : ℕ) → n ≡ 0 → (t ≡ Token.begin_array) ⊎ (t ≡ Token.begin_object) → data_of n (t ∷ ts) ≡ None
no_level t ts n none (inl e) = rw (none, e) (ap (converted of_json) (value_is 0 (Token.begin_array ∷ ts)))
no_level t ts n none (inr e) = rw (none, e) (ap (converted of_json) (value_is 0 (Token.begin_object ∷ ts)))

pub no_key : (n : ℕ) (ts : List Token) → read_key ts ≡ None → NoMembers n ts
no_key n ts e = λ fuel found enough. no_key_there (value n) fuel ts found e

pub no_value_under : (n : ℕ) (k : List ℕ) (ts s : List Token) → read_key ts ≡ Some (Some k, s) → s ≡ [] → NoMembers n ts
no_value_under n k ts s e empty = λ fuel found enough. member_refused (value n) fuel ts found k s (omega (arith, enough, read_key-shorter ts (Some k) s e)) e (rw empty (no_data n))

pub no_item : (n : ℕ) (ts : List Token) → after_end_array ts ≡ None → ts ≡ [] → NoItems n ts
no_item n ts e empty = λ fuel. nothing (value n) fuel ts e (rw empty (no_data n))

-- ---- members

pub members_start : (n : ℕ) (ts : List Token) → MembersSoFar n ts ts no_members
members_start n ts = record { fuel = length ts; enough = omega arith; same = refl; shorter = omega arith }

module _ (n : ℕ) (start ts : List Token) (found : Members) (so_far : MembersSoFar n start ts found) where
  pub member_more : (k : List ℕ) (s rest : List Token) (d : Data) → read_key ts ≡ Some (Some k, s) → data_of n s ≡ Some (d, rest) → length rest < length ts → MembersSoFar n start rest (put k d found)
  member_more k s rest d e f less = record {
    fuel = so_far.fuel - 1;
    enough = omega (arith, so_far.enough, less);
    same = so_far.same ∙ member_read (value n) so_far.fuel ts found k s rest d (omega (arith, so_far.enough, less)) e f;
    shorter = omega (arith, so_far.shorter, less);
  }

  pub members_stop : NoMembers n ts → members_of n start ≡ None
  members_stop none = so_far.same ∙ none so_far.fuel found so_far.enough

  pub member_stop : (k : List ℕ) (s : List Token) → read_key ts ≡ Some (Some k, s) → data_of n s ≡ None → members_of n start ≡ None
  member_stop k s e f = so_far.same ∙ member_refused (value n) so_far.fuel ts found k s (omega (arith, so_far.enough, read_key-shorter ts (Some k) s e)) e f

  pub members_all : (rest : List Token) → read_key ts ≡ Some (None, rest) → members_of n start ≡ Some (found, rest)
  members_all rest e = so_far.same ∙ members_over (value n) so_far.fuel ts found rest so_far.enough e

-- ---- items

before_none : (r : Option (Items × List Token)) → r ≡ parse_map (items_before []) r
before_none None = refl
before_none (Some p) = refl

one_before : (ds : List Data) (d : Data) (rest : Items) → items_before ds (item d rest) ≡ items_before (ds ++ d ∷ []) rest
one_before [] d rest = refl
one_before (e ∷ ds) d rest = ap (item e) (one_before ds d rest)

one_more : (ds : List Data) (d : Data) (r : Option (Items × List Token)) → parse_map (items_before ds) (parse_map (item d) r) ≡ parse_map (items_before (ds ++ d ∷ [])) r
one_more ds d None = refl
one_more ds d (Some p) = ap (λ is. Some (is, p.1)) (one_before ds d p.0)

pub items_start : (n : ℕ) (ts : List Token) → ItemsSoFar n ts ts []
items_start n ts = record { fuel = length ts; enough = omega arith; same = before_none _; shorter = omega arith }

module _ (n : ℕ) (start ts : List Token) (found : List Data) (so_far : ItemsSoFar n start ts found) where
  pub item_more : (rest : List Token) (d : Data) → after_end_array ts ≡ None → data_of n ts ≡ Some (d, rest) → length rest < length ts → ItemsSoFar n start rest (found ++ d ∷ [])
  item_more rest d e f less = record {
    fuel = so_far.fuel - 1;
    enough = omega (arith, so_far.enough, less);
    same = so_far.same ∙ ap (parse_map (items_before found)) (item_read (value n) so_far.fuel ts rest d (omega (arith, so_far.enough, less)) e f) ∙ one_more found d _;
    shorter = omega (arith, so_far.shorter, less);
  }

  pub items_stop : NoItems n ts → items_of n start ≡ None
  items_stop none = so_far.same ∙ ap (parse_map (items_before found)) (none so_far.fuel)

  pub item_stop : after_end_array ts ≡ None → data_of n ts ≡ None → items_of n start ≡ None
  item_stop e f = so_far.same ∙ ap (parse_map (items_before found)) (nothing (value n) so_far.fuel ts e f)

  pub items_all : (rest : List Token) → after_end_array ts ≡ Some rest → items_of n start ≡ Some (items_before found no_items, rest)
  items_all rest e = so_far.same ∙ ap (parse_map (items_before found)) (items_over (value n) so_far.fuel ts rest so_far.enough e)

-- ---- what opens

module _ (t : Token) (n m : ℕ) (ts : List Token) (deeper : n ≡ suc m) where
  array_is : t ≡ Token.begin_array → data_of n (t ∷ ts) ≡ parse_map array (items_of m ts)
  array_is e =
      let less : n - 1 ≡ m = omega (arith, deeper) in
      ap (λ u. data_of n (u ∷ ts)) e ∙ ap (converted of_json) (value-begin_array n ts (omega (arith, deeper))) ∙ of_array (items (value (n - 1)) (length ts) ts) ∙ ap (λ l. parse_map array (items_of l ts)) less

  object_is : t ≡ Token.begin_object → data_of n (t ∷ ts) ≡ parse_map object (members_of m ts)
  object_is e =
      let less : n - 1 ≡ m = omega (arith, deeper) in
      ap (λ u. data_of n (u ∷ ts)) e ∙ ap (converted of_json) (value-begin_object n ts (omega (arith, deeper))) ∙ of_object (members (value (n - 1)) (length ts) ts) ∙ ap (λ l. parse_map object (members_of l ts)) less

  pub array_read : (ds : Items) (rest : List Token) → t ≡ Token.begin_array → items_of m ts ≡ Some (ds, rest) → data_of n (t ∷ ts) ≡ Some (array ds, rest)
  array_read ds rest e f = array_is e ∙ ap (parse_map array) f

  pub array_stop : t ≡ Token.begin_array → items_of m ts ≡ None → data_of n (t ∷ ts) ≡ None
  array_stop e f = array_is e ∙ ap (parse_map array) f

  pub object_read : (ms : Members) (rest : List Token) → t ≡ Token.begin_object → members_of m ts ≡ Some (ms, rest) → data_of n (t ∷ ts) ≡ Some (object ms, rest)
  object_read ms rest e f = object_is e ∙ ap (parse_map object) f

  pub object_stop : t ≡ Token.begin_object → members_of m ts ≡ None → data_of n (t ∷ ts) ≡ None
  object_stop e f = object_is e ∙ ap (parse_map object) f

-- where a call answers, what it promises gives something else
pub on_ok : {T E P Q : Type 0} (r : Result T E) → OnOk r P → (P → Q) → OnOk r Q
on_ok (Ok x) p f = f p
on_ok (Err e) p f = tt

-- what is promised of an option is promised of what is in it, or of nothing
pub held : {T : Type 0} (P : Type 0) (Q : T → Type 0) {o : Option T} {x : T} → o ≡ Some x → MatchOption o P Q → Q x
held P Q is p = subst (λ o. MatchOption o P Q) is p

pub not_held : {T : Type 0} (P : Type 0) (Q : T → Type 0) {o : Option T} → o ≡ None → MatchOption o P Q → P
not_held P Q is p = subst (λ o. MatchOption o P Q) is p

pub read_same : {T : Type 0} (form : T → Data) (can : Data → Truth) (n : ℕ) (start rest : List Token) {o p : Option T} → o ≡ p → IsRead form can n start rest o → IsRead form can n start rest p
read_same form can n start rest is done = subst (λ q. IsRead form can n start rest q) is done

-- what was read behind something leaves less than it did
pub less_than : {k m n : ℕ} → k ≤ m → m < n → k < n
less_than p q = omega (arith, p, q)

pub no_more : {k m n : ℕ} → m ≤ n → k < m → k ≤ n
no_more p q = omega (arith, p, q)

-- an error that is propagated answers nothing, and is the error that it was
pub no_answer : {T E : Type 0} (P : T → Type 0) (r : Result T E) → is_err r ≡ true → IfOk r P
no_answer P (Ok x) e = absurd (cc)
no_answer P (Err y) e = tt

pub never_refused : {A T E : Type 0} {x : T} {e : E} → ◌≡◌ {A = Result T E} (Ok x) (Err e) → A
never_refused is = absurd (cc)

pub same_error : {S T E : Type 0} (e : E) {r : Result T E} {f : E} → (is_err r ≡ true) × IsErrAnd r (λ g. g ≡ e) → r ≡ Err f → ◌≡◌ {A = Result S E} (Err e) (Err f)
same_error e {r = Ok x} p is = absurd (cc)
same_error e {r = Err y} p is = cc (p.1, is)

-- ---- what a value is, by its first token

mapped : {A B : Type 0} (f : A → B) (o : Option (A × List Token)) (b : B) (rest : List Token) → parse_map f o ≡ Some (b, rest) → (a : A) × (b ≡ f a)
mapped f None b rest e = absurd (cc)
mapped f (Some (a, s)) b rest e = (a, ap (λ o. option_map_or (λ q. q.0) o b) (sym e))

the_said : (e d : Data) (s rest : List Token) → ◌≡◌ {A = Option (Data × List Token)} (Some (e, s)) (Some (d, rest)) → d ≡ e
the_said e d s rest p = ap (λ o. option_map_or (λ q. q.0) o d) (sym p)

abbrev pub Starts : Token → Data → Type 0
Starts Token.begin_object d = (ms : Members) × (d ≡ object ms)
Starts Token.begin_array d = (ds : Items) × (d ≡ array ds)
Starts (Token.string s) d = d ≡ string s
Starts (Token.number s) d = (x : Num) × (number_of s ≡ Some x) × (d ≡ number x)
Starts (Token.boolean b) d = d ≡ boolean b
Starts Token.null d = d ≡ null
Starts _ d = ⊥

number_start : (n : ℕ) (s : List ℕ) (o : Option Num) (ts rest : List Token) (d : Data) → number_of s ≡ o → data_of n (Token.number s ∷ ts) ≡ Some (d, rest) → (x : Num) × (number_of s ≡ Some x) × (d ≡ number x)
number_start n s None ts rest d f e = let lost = number_lost n s ts f in absurd (cc)
number_start n s (Some x) ts rest d f e = (x, f, the_said (number x) d ts rest (sym (number_said n s x ts f) ∙ e))

pub starts : (n : ℕ) (t : Token) (ts rest : List Token) (d : Data) → data_of n (t ∷ ts) ≡ Some (d, rest) → Starts t d
starts zero Token.begin_object ts rest d e = let none = no_level Token.begin_object ts 0 refl (inr refl) in absurd (cc)
starts (suc n) Token.begin_object ts rest d e = mapped object (members_of n ts) d rest (sym (object_is Token.begin_object (suc n) n ts refl refl) ∙ e)
starts zero Token.begin_array ts rest d e = let none = no_level Token.begin_array ts 0 refl (inl refl) in absurd (cc)
starts (suc n) Token.begin_array ts rest d e = mapped array (items_of n ts) d rest (sym (array_is Token.begin_array (suc n) n ts refl refl) ∙ e)
starts n (Token.string s) ts rest d e = the_said (string s) d ts rest (sym (text_said n s ts) ∙ e)
starts n (Token.boolean b) ts rest d e = the_said (boolean b) d ts rest (sym (truth_said n b ts) ∙ e)
starts n Token.null ts rest d e = the_said null d ts rest (sym (null_said n ts) ∙ e)
starts n (Token.number s) ts rest d e = number_start n s (number_of s) ts rest d refl e
starts n Token.end_object ts rest d e = let none = ap (converted of_json) (value_is n (Token.end_object ∷ ts)) in absurd (cc)
starts n Token.end_array ts rest d e = let none = ap (converted of_json) (value_is n (Token.end_array ∷ ts)) in absurd (cc)
starts n (Token.key s) ts rest d e = let none = ap (converted of_json) (value_is n (Token.key s ∷ ts)) in absurd (cc)
starts n Token.bad ts rest d e = let none = ap (converted of_json) (value_is n (Token.bad ∷ ts)) in absurd (cc)

-- ---- an array and an object from their first token to their last

module _ (t : Token) (n m : ℕ) (ts now rest : List Token) (deeper : n ≡ suc m) where
  pub array_done : (ds : List Data) → t ≡ Token.begin_array → ItemsSoFar m ts now ds → after_end_array now ≡ Some rest → data_of n (t ∷ ts) ≡ Some (array (items_before ds no_items), rest)
  array_done ds e so_far f = array_read t n m ts deeper (items_before ds no_items) rest e (items_all m ts now ds so_far rest f)

  pub object_done : (ms : Members) → t ≡ Token.begin_object → MembersSoFar m ts now ms → read_key now ≡ Some (None, rest) → data_of n (t ∷ ts) ≡ Some (object ms, rest)
  object_done ms e so_far f = object_read t n m ts deeper ms rest e (members_all m ts now ms so_far rest f)

-- ---- no such value, by its first token

pub no_text : (t : Found) (d : Data) → ((s : Bor (List ℕ)) → t ≡ String s → ⊥) → Starts (token_of t) d → is_text d ≡ false
no_text (String s) d never p = absurd (never s refl)
no_text (Bool b) d never p = rw p refl
no_text Null d never p = rw p refl
no_text BeginObject d never p = rw p.1 refl
no_text BeginArray d never p = rw p.1 refl
no_text (Number s) d never p = rw p.2 refl
no_text EndObject d never p = absurd p
no_text EndArray d never p = absurd p
no_text (Key s) d never p = absurd p
no_text Bad d never p = absurd p

pub no_truth : (t : Found) (d : Data) → ((b : Truth) → t ≡ Bool b → ⊥) → Starts (token_of t) d → is_truth d ≡ false
no_truth (String s) d never p = rw p refl
no_truth (Bool b) d never p = absurd (never b refl)
no_truth Null d never p = rw p refl
no_truth BeginObject d never p = rw p.1 refl
no_truth BeginArray d never p = rw p.1 refl
no_truth (Number s) d never p = rw p.2 refl
no_truth EndObject d never p = absurd p
no_truth EndArray d never p = absurd p
no_truth (Key s) d never p = absurd p
no_truth Bad d never p = absurd p

pub no_natural : (t : Found) (d : Data) → ((s : Bor (List ℕ)) → t ≡ Number s → ⊥) → Starts (token_of t) d → is_natural d ≡ false
no_natural (String s) d never p = rw p refl
no_natural (Bool b) d never p = rw p refl
no_natural Null d never p = rw p refl
no_natural BeginObject d never p = rw p.1 refl
no_natural BeginArray d never p = rw p.1 refl
no_natural (Number s) d never p = absurd (never s refl)
no_natural EndObject d never p = absurd p
no_natural EndArray d never p = absurd p
no_natural (Key s) d never p = absurd p
no_natural Bad d never p = absurd p

pub no_object : (t : Found) (d : Data) → (t ≡ BeginObject → ⊥) → Starts (token_of t) d → is_object d ≡ false
no_object (String s) d never p = rw p refl
no_object (Bool b) d never p = rw p refl
no_object Null d never p = rw p refl
no_object BeginObject d never p = absurd (never refl)
no_object BeginArray d never p = rw p.1 refl
no_object (Number s) d never p = rw p.2 refl
no_object EndObject d never p = absurd p
no_object EndArray d never p = absurd p
no_object (Key s) d never p = absurd p
no_object Bad d never p = absurd p

pub no_array : (t : Found) (d : Data) → (t ≡ BeginArray → ⊥) → Starts (token_of t) d → is_array d ≡ false
no_array (String s) d never p = rw p refl
no_array (Bool b) d never p = rw p refl
no_array Null d never p = rw p refl
no_array BeginObject d never p = rw p.1 refl
no_array BeginArray d never p = absurd (never refl)
no_array (Number s) d never p = rw p.2 refl
no_array EndObject d never p = absurd p
no_array EndArray d never p = absurd p
no_array (Key s) d never p = absurd p
no_array Bad d never p = absurd p

-- a natural number, or another
natural_at : (x : Num) (r : Option ℕ) → as_u64 x ≡ r → MatchOption r (is_natural (number x) ≡ false) (λ n. number x ≡ number (unsigned n))
natural_at (unsigned n) None e = absurd (cc)
natural_at (unsigned n) (Some m) e = let same : n ≡ m = cc in ap (λ k. number (unsigned k)) same
natural_at (negative z) None e = refl
natural_at (negative z) (Some m) e = absurd (cc)
natural_at (float f) None e = refl
natural_at (float f) (Some m) e = absurd (cc)

pub natural_read : (n : ℕ) (s : List ℕ) (ts : List Token) (r : Option ℕ) → Some r ≡ option_map as_u64 (number_of s) → IsRead (λ k. number (unsigned k)) is_natural n (Token.number s ∷ ts) ts r
natural_read n s ts r e =
    let x = number_in_range s r e in
    record { means = number x.0; read = number_said n s x.0 ts x.1; made = natural_at x.0 r x.2 }

-- of a number that is below a bound or not
pub below : (m : ℕ) → m < 65536 → nat_lt m (2 ^ 16) ≡ true
below m h = search (rules, h)

above : (m : ℕ) → 65536 ≤ m → nat_lt m (2 ^ 16) ≡ false
above m h = search (rules, h)

no_short : (d : Data) → is_natural d ≡ false → is_short d ≡ false
no_short null e = refl
no_short (boolean b) e = refl
no_short (number (unsigned m)) e = absurd (cc)
no_short (number (negative z)) e = refl
no_short (number (float f)) e = refl
no_short (string s) e = refl
no_short (array ds) e = refl
no_short (object ms) e = refl

module _ (n : ℕ) (start rest : List Token) {o : Option ℕ} (done : IsRead (λ k. number (unsigned k)) is_natural n start rest o) where
  pub short_read : (m : ℕ) → o ≡ Some m → IsRead (λ k. number (unsigned k)) is_short n start rest (Some m)
  short_read m is = record { means = done.means; read = done.read; made = held (is_natural done.means ≡ false) (λ k. done.means ≡ number (unsigned k)) is done.made }

  pub not_short : (m : ℕ) → 65536 ≤ m → o ≡ Some m → IsRead (λ k. number (unsigned k)) is_short n start rest None
  not_short m large is =
      let said : done.means ≡ number (unsigned m) = held (is_natural done.means ≡ false) (λ k. done.means ≡ number (unsigned k)) is done.made in
      record { means = done.means; read = done.read; made = ap is_short said ∙ above m large }

  pub none_short : o ≡ None → IsRead (λ k. number (unsigned k)) is_short n start rest None
  none_short is = record { means = done.means; read = done.read; made = no_short done.means (not_held (is_natural done.means ≡ false) (λ k. done.means ≡ number (unsigned k)) is done.made) }

pub no_null : (can : Data → Truth) (t : Found) (d : Data) → (t ≡ Null → ⊥) → Starts (token_of t) d → can d ≡ false → may_be can d ≡ false
no_null can (String s) d never p fails = rw p (subst (λ e. can e ≡ false) p fails)
no_null can (Bool b) d never p fails = rw p (subst (λ e. can e ≡ false) p fails)
no_null can Null d never p fails = absurd (never refl)
no_null can BeginObject d never p fails = rw p.1 (subst (λ e. can e ≡ false) p.1 fails)
no_null can BeginArray d never p fails = rw p.1 (subst (λ e. can e ≡ false) p.1 fails)
no_null can (Number s) d never p fails = rw p.2 (subst (λ e. can e ≡ false) p.2 fails)
no_null can EndObject d never p fails = absurd p
no_null can EndArray d never p fails = absurd p
no_null can (Key s) d never p fails = absurd p
no_null can Bad d never p fails = absurd p

-- ---- items of which something is made

pub no_list : (can : Data → Truth) (d : Data) → is_array d ≡ false → is_list can d ≡ false
no_list can null e = refl
no_list can (boolean b) e = refl
no_list can (number x) e = refl
no_list can (string s) e = refl
no_list can (array ds) e = absurd (cc)
no_list can (object ms) e = refl

pub to_items_is : (ds : List Data) → items_before ds no_items ≡ to_items ds
to_items_is [] = refl
to_items_is (d ∷ ds) = ap (item d) (to_items_is ds)

pub all_or_not : (can : Data → Truth) (ds : List Data) → pass_all can (items_before ds no_items) ≡ list_all can ds
all_or_not can [] = refl
all_or_not can (d ∷ ds) = ap (λ b. can d && b) (all_or_not can ds)

last_fails : (can : Data → Truth) (ds : List Data) (d : Data) → can d ≡ false → list_all can (ds ++ d ∷ []) ≡ false
last_fails can [] d e = rw e refl
last_fails can (x ∷ ds) d e = rw (last_fails can ds d e) (nothing (can x))
  where
    nothing : (b : Truth) → (b && false) ≡ false
    nothing true = refl
    nothing false = refl

fails_early_at : (b : Truth) (can : Data → Truth) (x : Data) (ds : List Data) (d : Data) → can x ≡ b → (b && list_all can ds) ≡ false → (list_all can ds ≡ false → list_all can (ds ++ d ∷ []) ≡ false) → (can x && list_all can (ds ++ d ∷ [])) ≡ false
fails_early_at true can x ds d is f more = rw (is, more f) refl
fails_early_at false can x ds d is f more = rw is refl

early_fails : (can : Data → Truth) (ds : List Data) (d : Data) → list_all can ds ≡ false → list_all can (ds ++ d ∷ []) ≡ false
early_fails can [] d e = absurd (cc)
early_fails can (x ∷ ds) d e = fails_early_at (can x) can x ds d refl e (early_fails can ds d)

module _ {T : Type 0} (form : T → Data) (can : Data → Truth) where
  pub made_more : (good : Truth) (xs : List T) (x : T) (ds : List Data) (d : Data) → d ≡ form x → AreMade form can good xs ds → AreMade form can good (xs ++ x ∷ []) (ds ++ d ∷ [])
  made_more true xs x ds d is made = rw (is, made) (sym (map-append form xs (x ∷ [])))
  made_more false xs x ds d is made = early_fails can ds d made

  pub made_bad : (xs : List T) (ds : List Data) (d : Data) → can d ≡ false → AreMade form can false xs (ds ++ d ∷ [])
  made_bad xs ds d fails = last_fails can ds d fails
