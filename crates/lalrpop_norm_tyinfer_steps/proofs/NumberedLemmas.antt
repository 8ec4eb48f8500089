-- What is in a table of types by number.
use Rattle.std.proofs.Common.{◌≡◌, ◌+◌, ◌++◌, ◌<◌, inl, inr, ℕ, zero, suc, Bool, true, false, cond, List, [], ◌∷◌, Option, Some, None, length, map, set, slice_get, append_assoc, bytes_eq, if◌then◌else◌, refl, sym, ap, subst, ◌∙◌, arith}
use Rattle.std.specs.Prelude.{is_some, option_map}
use Rattle.std.specs.HashMap.{get, keys}
use Rattle.std.specs.List.{position_from}
use Rattle.std.specs.Map.{lookup, keys_of}
use Rattle.std.proofs.lemmas.Iterator.Adapters.{position_from-zero}
use Rattle.std.proofs.lemmas.List.{map-append}
use Rattle.std.proofs.lemmas.Option.{slice_get-map}
use Rattle.std.proofs.lemmas.Slice.Eq.{bytes_eq-Decides}
use Rattle.lalrpop_norm_names.specs.Numbers.{first_place, number_by, number_in_table, names_looked_up}
use Rattle.lalrpop_norm_theory.specs.Rounds.{In, IsDistinct}
use Rattle.lalrpop_norm_tree_names.specs.declared.names.NonterminalString.{NonterminalString}
use Rattle.lalrpop_norm_tree.specs.Accessors.{or_else}
use Rattle.lalrpop_norm_tree_parts.specs.Reprs.{ReprData}
use Rattle.lalrpop_norm_repr.specs.Tables.{found}
use Rattle.lalrpop_norm_model.proofs.LevelLemmas.{at_in}
use Rattle.lalrpop_norm_model.proofs.ListLemmas.{texts_differ}
use Rattle.lalrpop_norm_shared_types.specs.declared.shared.SharedType.{SharedType}
use Rattle.lalrpop_norm_shared_types.specs.Shared.{shared_view}
use Rattle.lalrpop_norm_shared_types.specs.Table.{shared_rows}
use Rattle.lalrpop_norm_tyinfer_steps.proofs.NeedLemmas.{of_mapped_at}
use Rattle.lalrpop_norm_tyinfer_steps.specs.declared.numbered.Numbered.{Numbered}
use Rattle.lalrpop_norm_tyinfer_steps.specs.Needs.{AreRuleNumbers}
use Rattle.lalrpop_norm_tyinfer_steps.specs.Numbered.{names_numbered, type_of_rule, type_at, type_by_number, row_if, typed_rows, row_with, rows_of_rules, numbered_table, IsNumberOf, PutsType}
use Rattle.lalrpop_norm_tyinfer_steps.specs.TableValues.{nonterminal_named, type_by_name}

-- ---- a row for each name

module _ (f : List ℕ → Option ReprData) (n : List ℕ) where
  lacks_row : (m : List ℕ) (ns : List (List ℕ)) → f n ≡ None → found (nonterminal_named n) (typed_rows f ns) ≡ None → (o : Option ReprData) → f m ≡ o → (b : Bool) → bytes_eq n m ≡ b →
      found (nonterminal_named n) (row_if m o ++ typed_rows f ns) ≡ None
  lacks_row m ns none rest None e b is = rest
  lacks_row m ns none rest (Some x) e true is = let clash : None ≡ Some x = sym none ∙ (ap f ((bytes_eq-Decides n m).0 is) ∙ e) in absurd cc
  lacks_row m ns none rest (Some x) e false is = rw is rest

  found_none : (ns : List (List ℕ)) → f n ≡ None → found (nonterminal_named n) (typed_rows f ns) ≡ None
  found_none [] none = refl
  found_none (m ∷ ns) none = lacks_row m ns none (found_none ns none) (f m) refl (bytes_eq n m) refl

  has_row : (x : ReprData) (m : List ℕ) (ns : List (List ℕ)) → f n ≡ Some x → (In n ns → found (nonterminal_named n) (typed_rows f ns) ≡ Some x) → In n (m ∷ ns) → (o : Option ReprData) → f m ≡ o →
      (b : Bool) → bytes_eq n m ≡ b → found (nonterminal_named n) (row_if m o ++ typed_rows f ns) ≡ Some x
  has_row x m ns some rest (inl same) None e b is = let clash : Some x ≡ None = sym some ∙ (ap f same ∙ e) in absurd cc
  has_row x m ns some rest (inr h) None e b is = rest h
  has_row x m ns some rest h (Some y) e true is = rw is (sym e ∙ (ap f (sym ((bytes_eq-Decides n m).0 is)) ∙ some))
  has_row x m ns some rest (inl same) (Some y) e false is = absurd (texts_differ n m is same)
  has_row x m ns some rest (inr h) (Some y) e false is = rw is (rest h)

  found_some : (ns : List (List ℕ)) (x : ReprData) → f n ≡ Some x → In n ns → found (nonterminal_named n) (typed_rows f ns) ≡ Some x
  found_some [] x some h = absurd h
  found_some (m ∷ ns) x some h = has_row x m ns some (λ i. found_some ns x some i) h (f m) refl (bytes_eq n m) refl

key_case : (n : List ℕ) (e : List ℕ × ℕ) (es : List (List ℕ × ℕ)) (k : ℕ) → (lookup (bytes_eq n) es ≡ Some k → In n (keys_of es)) → (b : Bool) → bytes_eq n e.0 ≡ b →
    cond b (Some e.1) (lookup (bytes_eq n) es) ≡ Some k → In n (e.0 ∷ keys_of es)
key_case n e es k rest true is here = inl ((bytes_eq-Decides n e.0).0 is)
key_case n e es k rest false is here = inr (rest here)

key_in : (n : List ℕ) (es : List (List ℕ × ℕ)) (k : ℕ) → lookup (bytes_eq n) es ≡ Some k → In n (keys_of es)
key_in n [] k here = absurd (cc here)
key_in n (e ∷ es) k here = key_case n e es k (λ h. key_in n es k h) (bytes_eq n e.0) refl here

place_case : (n m : List ℕ) (ns : List (List ℕ)) (i k : ℕ) → (position_from (λ stands. bytes_eq stands n) (i + 1) ns ≡ Some k → In n ns) → (b : Bool) → bytes_eq m n ≡ b →
    cond b (Some i) (position_from (λ stands. bytes_eq stands n) (i + 1) ns) ≡ Some k → In n (m ∷ ns)
place_case n m ns i k rest true is here = inl (sym ((bytes_eq-Decides m n).0 is))
place_case n m ns i k rest false is here = inr (rest here)

place_from : (n : List ℕ) (ns : List (List ℕ)) (i k : ℕ) → position_from (λ stands. bytes_eq stands n) i ns ≡ Some k → In n ns
place_from n [] i k here = absurd (cc here)
place_from n (m ∷ ns) i k here = place_case n m ns i k (λ h. place_from n ns (i + 1) k h) (bytes_eq m n) refl here

-- a name with an index among names is one of them
place_in : (n : List ℕ) (ns : List (List ℕ)) (k : ℕ) → first_place ns n ≡ Some k → In n ns
place_in n ns k here = place_from n ns 0 k (sym (position_from-zero (λ stands. bytes_eq stands n) ns) ∙ here)

in_front : (n : List ℕ) (ns others : List (List ℕ)) → In n ns → In n (ns ++ others)
in_front n [] others h = absurd h
in_front n (m ∷ ns) others (inl same) = inl same
in_front n (m ∷ ns) others (inr h) = inr (in_front n ns others h)

name_in : (n : List ℕ) (few keys : List (List ℕ)) (number : Option ℕ) (k : ℕ) → ((j : ℕ) → number ≡ Some j → In n keys) → number_by few number n ≡ Some k → In n (few ++ keys)
name_in n [] keys number k there here = there k here
name_in n (f ∷ fs) keys number k there here = in_front n (f ∷ fs) keys (place_in n (f ∷ fs) k here)

module _ (t : Numbered) (n : List ℕ) where
  by_type : (k : ℕ) → number_in_table t.names n ≡ Some k → (o : Option ReprData) → type_by_number t n ≡ o → type_by_name (numbered_table t) n ≡ o
  by_type k number None e = found_none (type_by_number t) n (names_looked_up t.names) e
  by_type k number (Some x) e = found_some (type_by_number t) n (names_looked_up t.names) x e (name_in n t.names.few.items (keys t.names.many) (get bytes_eq t.names.many n) k (λ j. key_in n t.names.many.entries j) number)

  by_case : (o : Option ℕ) → number_in_table t.names n ≡ o → type_by_name (numbered_table t) n ≡ type_by_number t n
  by_case None e = let none : type_by_number t n ≡ None = ap (type_at t.rules.items) e in found_none (type_by_number t) n (names_looked_up t.names) none ∙ sym none
  by_case (Some k) e = by_type k e (type_by_number t n) refl

  -- a name has the type at its number
  pub name_by_number : type_by_name (numbered_table t) n ≡ type_by_number t n
  name_by_number = by_case (number_in_table t.names n) refl

-- a rule's number has the type of its name
pub type_at_number : (t : Numbered) (n : List ℕ) (k : ℕ) → IsNumberOf t n k → type_at t.rules.items (Some k) ≡ type_by_name (numbered_table t) n
type_at_number t n k of = sym (name_by_number t n ∙ ap (type_at t.rules.items) of.is)

pub is_there : {X Y : Type 0} (f : X → Y) (o : Option X) → is_some o ≡ is_some (option_map f o)
is_there f None = refl
is_there f (Some x) = refl

-- ---- a number takes a type

map_set : {X Y : Type 0} (f : X → Y) (xs : List X) (k : ℕ) (x y : X) → slice_get xs k ≡ Some x → f y ≡ f x → map f (set xs k y) ≡ map f xs
map_set f [] k x y here e = absurd (cc here)
map_set f (z ∷ xs) zero x y here e = let same : z ≡ x = cc in ap (λ v. v ∷ map f xs) (e ∙ ap f (sym same))
map_set f (z ∷ xs) (suc k) x y here e = ap (λ vs. f z ∷ vs) (map_set f xs k x y here e)

get_set : {X : Type 0} (xs : List X) (k : ℕ) (y : X) → k < length xs → slice_get (set xs k y) k ≡ Some y
get_set [] k y lt = absurd (omega arith)
get_set (z ∷ xs) zero y lt = refl
get_set (z ∷ xs) (suc k) y lt = get_set xs k y (omega arith)

get_beside : {X : Type 0} (xs : List X) (k q : ℕ) (y : X) → (k ≡ q → ⊥) → slice_get (set xs k y) q ≡ slice_get xs q
get_beside [] k q y apart = refl
get_beside (z ∷ xs) zero zero y apart = absurd (apart refl)
get_beside (z ∷ xs) zero (suc q) y apart = refl
get_beside (z ∷ xs) (suc k) zero y apart = refl
get_beside (z ∷ xs) (suc k) (suc q) y apart = get_beside xs k q y (λ e. apart (ap suc e))

pub puts_type : (t after : Numbered) (number : ℕ) (old : NonterminalString × Option SharedType) (ty : SharedType) → slice_get t.rules.items number ≡ Some old → number < length t.rules.items →
    after.names ≡ t.names → after.tokens ≡ t.tokens → after.rules.items ≡ set t.rules.items number (old.0, Some ty) → PutsType t after number (shared_view ty)
puts_type t after number old ty there lt names tokens rules = record {
  names = names;
  listed = ap (map (λ (r : NonterminalString × Option SharedType). r.0.0)) rules ∙ map_set (λ (r : NonterminalString × Option SharedType). r.0.0) t.rules.items number old (old.0, Some ty) there refl;
  tokens = tokens;
  here = ap (λ rs. type_of_rule (slice_get rs number)) rules ∙ ap type_of_rule (get_set t.rules.items number (old.0, Some ty) lt);
  others = λ q apart. ap (λ rs. type_of_rule (slice_get rs q)) rules ∙ ap type_of_rule (get_beside t.rules.items number q (old.0, Some ty) apart);
}

-- ---- no rule has a type

later_none : (rs : List (NonterminalString × Option SharedType)) (r : NonterminalString × Option SharedType) → ((o : Option ℕ) → type_at (r ∷ rs) o ≡ None) → (o : Option ℕ) → type_at rs o ≡ None
later_none rs r none None = refl
later_none rs r none (Some k) = none (Some (suc k))

pub none_at_first : (o : Option ℕ) → type_at [] o ≡ None
none_at_first None = refl
none_at_first (Some k) = refl

pub none_more : (rs : List (NonterminalString × Option SharedType)) (n : NonterminalString) → ((o : Option ℕ) → type_at rs o ≡ None) → (o : Option ℕ) → type_at (rs ++ (n, None) ∷ []) o ≡ None
none_more rs n none None = refl
none_more [] n none (Some zero) = refl
none_more [] n none (Some (suc k)) = refl
none_more (r ∷ rs) n none (Some zero) = none (Some zero)
none_more (r ∷ rs) n none (Some (suc k)) = none_more rs n (later_none rs r none) (Some k)

-- the next name becomes that of a rule
pub name_moved : (rs : List (NonterminalString × Option SharedType)) (n : NonterminalString) (ns : List NonterminalString) →
    map (λ (r : NonterminalString × Option SharedType). r.0.0) (rs ++ (n, None) ∷ []) ++ map (λ (m : NonterminalString). m.0) ns
    ≡ map (λ (r : NonterminalString × Option SharedType). r.0.0) rs ++ map (λ (m : NonterminalString). m.0) (n ∷ ns)
name_moved rs n ns =
    let texts = map (λ (m : NonterminalString). m.0) ns in
    let name = λ (r : NonterminalString × Option SharedType). r.0.0 in
    ap (λ xs. xs ++ texts) (map-append name rs ((n, None) ∷ [])) ∙ append_assoc (map name rs) (n.0 ∷ []) texts

-- ---- types by name

-- the type of the first rule of a name that has one
abbrev pub first_typed : List ℕ → List (NonterminalString × Option SharedType) → Option ReprData
first_typed n [] = None
first_typed n (r ∷ rs) = or_else (if bytes_eq n r.0.0 then option_map shared_view r.1 else None) (first_typed n rs)

abbrev pub names_in_rules : List (NonterminalString × Option SharedType) → List (List ℕ)
names_in_rules rs = map (λ r. r.0.0) rs

or_none : (o : Option ReprData) → or_else o None ≡ o
or_none None = refl
or_none (Some x) = refl

absent_case : (n : List ℕ) (r : NonterminalString × Option SharedType) (rs : List (NonterminalString × Option SharedType)) → (In n (names_in_rules (r ∷ rs)) → ⊥) → first_typed n rs ≡ None → (b : Bool) → bytes_eq n r.0.0 ≡ b →
    first_typed n (r ∷ rs) ≡ None
absent_case n r rs out rest true e = absurd (out (inl ((bytes_eq-Decides n r.0.0).0 e)))
absent_case n r rs out rest false e = rw e rest

absent : (n : List ℕ) (rs : List (NonterminalString × Option SharedType)) → (In n (names_in_rules rs) → ⊥) → first_typed n rs ≡ None
absent n [] out = refl
absent n (r ∷ rs) out = absent_case n r rs out (absent n rs (λ h. out (inr h))) (bytes_eq n r.0.0) refl

typed_here : (n : List ℕ) (r : NonterminalString × Option SharedType) (rs : List (NonterminalString × Option SharedType)) → (In r.0.0 (names_in_rules rs) → ⊥) → n ≡ r.0.0 → first_typed n (r ∷ rs) ≡ option_map shared_view r.1
typed_here n r rs out e =
    let is : bytes_eq n r.0.0 ≡ true = (bytes_eq-Decides n r.0.0).1 e in
    rw is (ap (or_else (option_map shared_view r.1)) (absent n rs (λ h. out (subst (λ m. In m (names_in_rules rs)) e h))) ∙ or_none (option_map shared_view r.1))

typed_behind : (n : List ℕ) (r : NonterminalString × Option SharedType) (rs : List (NonterminalString × Option SharedType)) → (n ≡ r.0.0 → ⊥) → (b : Bool) → bytes_eq n r.0.0 ≡ b → first_typed n (r ∷ rs) ≡ first_typed n rs
typed_behind n r rs apart true e = absurd (apart ((bytes_eq-Decides n r.0.0).0 e))
typed_behind n r rs apart false e = rw e refl

typed_at_place : (n : List ℕ) (rs : List (NonterminalString × Option SharedType)) (k : ℕ) (r : NonterminalString × Option SharedType) → IsDistinct (names_in_rules rs) → slice_get rs k ≡ Some r → n ≡ r.0.0 →
    first_typed n rs ≡ option_map shared_view r.1
typed_at_place n [] k r d here e = absurd (cc here)
typed_at_place n (q ∷ rs) zero r d here e =
    let same : q ≡ r = cc in
    typed_here n q rs d.0 (e ∙ ap (λ (s : NonterminalString × Option SharedType). s.0.0) (sym same)) ∙ ap (λ (s : NonterminalString × Option SharedType). option_map shared_view s.1) same
typed_at_place n (q ∷ rs) (suc k) r d here e =
    let behind : In r.0.0 (names_in_rules rs) = at_in (names_in_rules rs) k r.0.0 (slice_get-map (λ (s : NonterminalString × Option SharedType). s.0.0) rs k ∙ ap (option_map (λ (s : NonterminalString × Option SharedType). s.0.0)) here) in
    typed_behind n q rs (λ same. d.0 (subst (λ m. In m (names_in_rules rs)) (sym e ∙ same) behind)) (bytes_eq n q.0.0) refl ∙ typed_at_place n rs k r d.1 here e

module _ (t : Numbered) (numbers : AreRuleNumbers (number_in_table t.names) (names_numbered t)) (distinct : IsDistinct (names_numbered t)) (n : List ℕ) where
  first_case : (o : Option ℕ) → number_in_table t.names n ≡ o → first_typed n t.rules.items ≡ type_by_number t n
  first_case None e = absent n t.rules.items (numbers.all n e) ∙ sym (ap (type_at t.rules.items) e)
  first_case (Some k) e =
      let r = of_mapped_at (λ (s : NonterminalString × Option SharedType). s.0.0) t.rules.items k n (numbers.right n k e) in
      typed_at_place n t.rules.items k r.0 distinct r.1 (sym r.2) ∙ sym (ap (type_at t.rules.items) e ∙ ap type_of_rule r.1)

  pub first_is : first_typed n t.rules.items ≡ type_by_name (numbered_table t) n
  first_is = first_case (number_in_table t.names n) refl ∙ sym (name_by_number t n)

pub none_left : {X : Type 0} (xs : List X) → length xs ≡ 0 → xs ≡ []
none_left [] e = refl
none_left (x ∷ xs) e = absurd (omega arith)

-- ---- the rows of the rules that have types

row_first : (n : List ℕ) (m : NonterminalString) (v : Option SharedType) (rows : List (NonterminalString × SharedType)) (o : Option ReprData) → found (nonterminal_named n) (shared_rows rows) ≡ o → (b : Bool) → bytes_eq n m.0 ≡ b →
    found (nonterminal_named n) (shared_rows (row_with m v ++ rows)) ≡ or_else (if bytes_eq n m.0 then option_map shared_view v else None) o
row_first n m None rows o rest true e = rw e rest
row_first n m None rows o rest false e = rw e rest
row_first n m (Some t) rows o rest true e = rw e refl
row_first n m (Some t) rows o rest false e = rw e rest

-- the first row of a name has the type of the first rule of that name that has one
pub rows_first : (n : List ℕ) (rs : List (NonterminalString × Option SharedType)) → found (nonterminal_named n) (shared_rows (rows_of_rules rs)) ≡ first_typed n rs
rows_first n [] = refl
rows_first n (r ∷ rs) = row_first n r.0 r.1 (rows_of_rules rs) (first_typed n rs) (rows_first n rs) (bytes_eq n r.0.0) refl

abbrev pub names_in_rows : List (NonterminalString × SharedType) → List (List ℕ)
names_in_rows rows = map (λ (r : NonterminalString × SharedType). r.0.0) rows

row_in : (n : List ℕ) (m : NonterminalString) (v : Option SharedType) (rows : List (NonterminalString × SharedType)) (names : List (List ℕ)) → (In n (names_in_rows rows) → In n names) → In n (names_in_rows (row_with m v ++ rows)) → In n (m.0 ∷ names)
row_in n m None rows names rest h = inr (rest h)
row_in n m (Some t) rows names rest (inl same) = inl same
row_in n m (Some t) rows names rest (inr h) = inr (rest h)

rows_in : (n : List ℕ) (rs : List (NonterminalString × Option SharedType)) → In n (names_in_rows (rows_of_rules rs)) → In n (names_in_rules rs)
rows_in n [] h = absurd h
rows_in n (r ∷ rs) h = row_in n r.0 r.1 (rows_of_rules rs) (names_in_rules rs) (rows_in n rs) h

row_distinct : (m : NonterminalString) (v : Option SharedType) (rows : List (NonterminalString × SharedType)) → (In m.0 (names_in_rows rows) → ⊥) → IsDistinct (names_in_rows rows) → IsDistinct (names_in_rows (row_with m v ++ rows))
row_distinct m None rows out rest = rest
row_distinct m (Some t) rows out rest = (out, rest)

-- where the names of rules are distinct, so are those of the rows
pub rows_distinct : (rs : List (NonterminalString × Option SharedType)) → IsDistinct (names_in_rules rs) → IsDistinct (map (λ (r : NonterminalString × SharedType). r.0.0) (rows_of_rules rs))
rows_distinct [] d = d
rows_distinct (r ∷ rs) d = row_distinct r.0 r.1 (rows_of_rules rs) (λ h. d.0 (rows_in r.0.0 rs h)) (rows_distinct rs d.1)
