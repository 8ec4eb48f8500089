-- Each type where the rounds end is made by a clause of its rule out of that table itself; so a declared type agrees with it.
use Rattle.std.proofs.Common.{◌≡◌, ℕ, zero, suc, Bool, true, false, List, [], ◌∷◌, map, Option, Some, None, option_map, inl, inr, refl, sym, ap, subst, ◌∙◌, if◌then◌else◌, bytes_eq}
use Rattle.std.proofs.lemmas.Slice.Eq.{bytes_eq-Decides}
use Rattle.lalrpop_norm_tree.specs.Items.{RuleData, GrammarData}
use Rattle.lalrpop_norm_tree_parts.specs.Paths.{PathData}
use Rattle.lalrpop_norm_tree_parts.specs.Reprs as lowered
use Rattle.lalrpop_norm_tree_parts.specs.Reprs.{ReprData, Reprs}
use Rattle.lalrpop_norm_tree.specs.Symbols.{Kind, terminal, nonterminal, error_terminal}
use Rattle.lalrpop_norm_tree.specs.Types.{TypeData, TypesData, MaybeType, tuple, slice, nominal, reference, trait_object, of_lifetime, id, of_symbol, function, no_types, type_and, no_type, returns}
use Rattle.lalrpop_norm_theory.specs.Rounds.{In, IsDistinct}
use Rattle.lalrpop_norm_tree.specs.Traversal.{wrapped_kind}
use Rattle.lalrpop_norm_model.specs.PlainRules.{all_rules}
use Rattle.lalrpop_norm_model.specs.Expanded.{rule_names}
use Rattle.lalrpop_norm_model.specs.TypeRelation.{associated_of, IsRule, TypeClause, makes, locates, type_clauses}
use Rattle.lalrpop_norm_model.specs.TypeTables.{Table, leaf_type, grammar_types, path_value, both, type_value, types_value, return_value, clause_value}
use Rattle.lalrpop_norm_model.specs.TypeRounds.{TypeRow, table_of, first_value, taken, visit, visits, type_rounds, IsEnd}
use Rattle.lalrpop_norm_model.proofs.TypeRoundLemmas.{first_made}

-- ---- values grow with the table

-- what the first has, the second has too
abbrev pub More : {A : Type 0} → Option A → Option A → Type 0
More {A} v w = (x : A) → v ≡ Some x → w ≡ Some x

abbrev pub Grows : Table → Table → Type 0
Grows f h = (n : List ℕ) → More (f n) (h n)

map_more : {A B : Type 0} (f : A → B) (v w : Option A) → More v w → More (option_map f v) (option_map f w)
map_more f None w more y e = absurd cc
map_more f (Some x) w more y e = rw (more x refl) e

both_more : {A B C : Type 0} (f : A → B → C) (v w : Option A) (t u : Option B) → More v w → More t u → More (both f v t) (both f w u)
both_more f None w t u one two z e = absurd cc
both_more f (Some x) w None u one two z e = absurd cc
both_more f (Some x) w (Some y) u one two z e = rw (one x refl, two y refl) e

path_more : (a : Option (List ℕ × List ℕ)) (p : PathData) (v w : Option Reprs) → More v w → More (path_value a p v) (path_value a p w)
path_more (Some a) p v w more x e = e
path_more None p v w more x e = map_more (lowered.nominal p) v w more x e

leaf_more : (g : GrammarData) (f h : Table) → Grows f h → (k : Kind) → More (leaf_type (grammar_types g f) k) (leaf_type (grammar_types g h) k)
leaf_more g f h grows (terminal t) x e = e
leaf_more g f h grows error_terminal x e = e
leaf_more g f h grows (nonterminal n) x e = grows n x e
leaf_more g f h grows _ x e = absurd cc

mutual
  type_more : (g : GrammarData) (f h : Table) → Grows f h → (t : TypeData) → More (type_value g f t) (type_value g h t)
  type_more g f h grows (of_symbol k) x e = leaf_more g f h grows (wrapped_kind k) x e
  type_more g f h grows (nominal p ts) x e = path_more (associated_of g p) p (types_value g f ts) (types_value g h ts) (types_more g f h grows ts) x e
  type_more g f h grows (id a) x e = e
  type_more g f h grows (tuple ts) x e = map_more lowered.tuple (types_value g f ts) (types_value g h ts) (types_more g f h grows ts) x e
  type_more g f h grows (slice t) x e = map_more lowered.slice (type_value g f t) (type_value g h t) (type_more g f h grows t) x e
  type_more g f h grows (reference l m t) x e = map_more (lowered.reference l m) (type_value g f t) (type_value g h t) (type_more g f h grows t) x e
  type_more g f h grows (trait_object p ts) x e = map_more (lowered.trait_object p) (types_value g f ts) (types_value g h ts) (types_more g f h grows ts) x e
  type_more g f h grows (of_lifetime l) x e = e
  type_more g f h grows (function fs p ts r) x e =
      both_more (lowered.function fs p) (types_value g f ts) (types_value g h ts) (return_value g f r) (return_value g h r)
      (types_more g f h grows ts) (return_more g f h grows r) x e

  types_more : (g : GrammarData) (f h : Table) → Grows f h → (ts : TypesData) → More (types_value g f ts) (types_value g h ts)
  types_more g f h grows no_types x e = e
  types_more g f h grows (type_and t ts) x e =
      both_more lowered.repr_and (type_value g f t) (type_value g h t) (types_value g f ts) (types_value g h ts)
      (type_more g f h grows t) (types_more g f h grows ts) x e

  return_more : (g : GrammarData) (f h : Table) → Grows f h → (r : MaybeType) → More (return_value g f r) (return_value g h r)
  return_more g f h grows no_type x e = e
  return_more g f h grows (returns t) x e = map_more lowered.returns (type_value g f t) (type_value g h t) (type_more g f h grows t) x e

clause_more : (g : GrammarData) (f h : Table) → Grows f h → (c : TypeClause) → More (clause_value g f c) (clause_value g h c)
clause_more g f h grows (makes t) x e = type_more g f h grows t x e
clause_more g f h grows locates x e = e

-- ---- fed tables

-- a clause of a rule of that name makes that type of the table
pub record IsFed (g : GrammarData) (f : Table) (n : List ℕ) (x : ReprData) : Type 0 where
  pub rule : RuleData
  pub stands : IsRule g rule
  pub name : rule.name.0 ≡ n
  pub clause : TypeClause
  pub among : In clause (type_clauses rule)
  pub value : clause_value g f clause ≡ Some x

abbrev AllFed : GrammarData → Table → List TypeRow → Type 0
AllFed g f [] = Unit {0}
AllFed g f (r ∷ rows) = IsFed g f r.0 r.1 × AllFed g f rows

fed_more : (g : GrammarData) (f h : Table) → Grows f h → (rows : List TypeRow) → AllFed g f rows → AllFed g h rows
fed_more g f h grows [] a = tt
fed_more g f h grows (r ∷ rows) a = (
  record {
    rule = a.0.rule;
    stands = a.0.stands;
    name = a.0.name;
    clause = a.0.clause;
    among = a.0.among;
    value = clause_more g f h grows a.0.clause r.1 a.0.value;
  },
  fed_more g f h grows rows a.1,
)

row_grows_case : (rows : List TypeRow) (n : List ℕ) (x : ReprData) → table_of rows n ≡ None → (m : List ℕ) (b : Bool) → bytes_eq n m ≡ b →
    More (table_of rows m) (if b then Some x else table_of rows m)
row_grows_case rows n x none m true e y d =
    let same : n ≡ m = (bytes_eq-Decides n m).0 e in
    let gone : table_of rows m ≡ None = subst (λ a. table_of rows a ≡ None) same none in
    absurd cc
row_grows_case rows n x none m false e y d = d

row_grows : (rows : List TypeRow) (n : List ℕ) (x : ReprData) → table_of rows n ≡ None → Grows (table_of rows) (table_of ((n, x) ∷ rows))
row_grows rows n x none m = row_grows_case rows n x none m (bytes_eq n m) refl

taken_fed : (g : GrammarData) (rows : List TypeRow) (r : RuleData) (v w : Option ReprData) → IsRule g r → AllFed g (table_of rows) rows → table_of rows r.name.0 ≡ v →
    first_value g (table_of rows) (type_clauses r) ≡ w → AllFed g (table_of (taken rows r.name.0 v w)) (taken rows r.name.0 v w)
taken_fed g rows r (Some y) w rule fed e d = fed
taken_fed g rows r None None rule fed e d = fed
taken_fed g rows r None (Some x) rule fed e d =
    let m = first_made g (table_of rows) (type_clauses r) x d in
    let grows : Grows (table_of rows) (table_of ((r.name.0, x) ∷ rows)) = row_grows rows r.name.0 x e in (
      record { rule = r; stands = rule; name = refl; clause = m.0; among = m.1; value = clause_more g (table_of rows) (table_of ((r.name.0, x) ∷ rows)) grows m.0 x m.2 },
      fed_more g (table_of rows) (table_of ((r.name.0, x) ∷ rows)) grows rows fed,
    )

visits_fed : (g : GrammarData) (rows : List TypeRow) (rs : List RuleData) → ((r : RuleData) → In r rs → IsRule g r) → AllFed g (table_of rows) rows →
    AllFed g (table_of (visits g rows rs)) (visits g rows rs)
visits_fed g rows [] all fed = fed
visits_fed g rows (r ∷ rs) all fed =
    visits_fed g (visit g rows r) rs (λ s i. all s (inr i))
    (taken_fed g rows r (table_of rows r.name.0) (first_value g (table_of rows) (type_clauses r)) (all r (inl refl)) fed refl refl)

rounds_fed : (g : GrammarData) (k : ℕ) → AllFed g (table_of (type_rounds g k)) (type_rounds g k)
rounds_fed g zero = tt
rounds_fed g (suc k) = visits_fed g (type_rounds g k) (all_rules g) (λ r i. i) (rounds_fed g k)

row_fed : (g : GrammarData) (f : Table) (r : TypeRow) (n : List ℕ) (x : ReprData) (b : Bool) (rest : Option ReprData) → bytes_eq r.0 n ≡ b → IsFed g f r.0 r.1 →
    (rest ≡ Some x → IsFed g f n x) → (if b then Some r.1 else rest) ≡ Some x → IsFed g f n x
row_fed g f r n x true rest is fed other e =
    let same : r.1 ≡ x = cc in
    subst (λ y. IsFed g f n y) same (subst (λ m. IsFed g f m r.1) ((bytes_eq-Decides r.0 n).0 is) fed)
row_fed g f r n x false rest is fed other e = other e

found_fed : (g : GrammarData) (f : Table) (rows : List TypeRow) → AllFed g f rows → (n : List ℕ) (x : ReprData) → table_of rows n ≡ Some x → IsFed g f n x
found_fed g f [] a n x e = absurd cc
found_fed g f (r ∷ rows) a n x e = row_fed g f r n x (bytes_eq r.0 n) (table_of rows n) refl a.0 (found_fed g f rows a.1 n x) e

-- each type where the rounds end is fed
pub end_fed : (g : GrammarData) (rows : List TypeRow) → IsEnd g rows → (n : List ℕ) (x : ReprData) → table_of rows n ≡ Some x → IsFed g (table_of rows) n x
end_fed g rows end = found_fed g (table_of rows) rows (subst (λ s. AllFed g (table_of s) s) (sym end.reached) (rounds_fed g end.count))

-- ---- declared types

abbrev names : List RuleData → List (List ℕ)
names rs = map (λ (r : RuleData). r.name.0) rs

name_in : (r : RuleData) (rs : List RuleData) → In r rs → In r.name.0 (names rs)
name_in r [] i = absurd i
name_in r (s ∷ rs) (inl e) = inl (ap (λ (q : RuleData). q.name.0) e)
name_in r (s ∷ rs) (inr i) = inr (name_in r rs i)

-- of distinct names each has one rule
one_of_name : (rs : List RuleData) → IsDistinct (names rs) → (r s : RuleData) → In r rs → In s rs → r.name.0 ≡ s.name.0 → r ≡ s
one_of_name [] d r s i j e = absurd i
one_of_name (q ∷ rs) d r s (inl a) (inl b) e = a ∙ sym b
one_of_name (q ∷ rs) d r s (inl a) (inr j) e =
    let is : s.name.0 ≡ q.name.0 = sym e ∙ ap (λ (p : RuleData). p.name.0) a in
    absurd (d.0 (subst (λ n. In n (names rs)) is (name_in s rs j)))
one_of_name (q ∷ rs) d r s (inr i) (inl b) e =
    let is : r.name.0 ≡ q.name.0 = e ∙ ap (λ (p : RuleData). p.name.0) b in
    absurd (d.0 (subst (λ n. In n (names rs)) is (name_in r rs i)))
one_of_name (q ∷ rs) d r s (inr i) (inr j) e = one_of_name rs d.1 r s i j e

-- where names are distinct, each type in the table is made by a clause of the rule itself
pub own_fed : (g : GrammarData) (rows : List TypeRow) → IsDistinct (rule_names g) → IsEnd g rows → (r : RuleData) → IsRule g r → (x : ReprData) →
    table_of rows r.name.0 ≡ Some x → (c : TypeClause) × In c (type_clauses r) × (clause_value g (table_of rows) c ≡ Some x)
own_fed g rows distinct end r rule x e =
    let fed = end_fed g rows end r.name.0 x e in
    let same : fed.rule ≡ r = one_of_name (all_rules g) distinct fed.rule r fed.stands rule fed.name in
    (fed.clause, subst (λ q. In fed.clause (type_clauses q)) same fed.among, fed.value)
