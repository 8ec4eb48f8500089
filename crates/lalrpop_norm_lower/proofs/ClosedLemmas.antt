-- Lowered grammars with nothing left open, part by part.
use Rattle.std.proofs.Common.{◌≡◌, ◌∙◌, ℕ, suc, ◌+◌, Bool, true, false, cond, ◌||◌, List, [], ◌∷◌, ◌++◌, length, map, Option, Some, None, refl, sym, ap, subst, bytes_eq, arith}
use Rattle.std.specs.Prelude.{IsSome, flat_map, filter, slice_get}
use Rattle.std.specs.List.{list_any, AllByRecursion, AllZip, enumerate_from}
use Rattle.std.specs.List.Sorted.{IsStrictlySortedBy}
use Rattle.std.specs.Map.{keys_of, lookup}
use Rattle.std.specs.Ordering.{eq_by_cmp}
use Rattle.std.proofs.lemmas.Cmp.{eq_by_cmp_equiv}
use Rattle.std.proofs.lemmas.List.{length-map}
use Rattle.std.proofs.lemmas.List.Elements.{All-from_recursion}
use Rattle.std.proofs.lemmas.List.FromFn.{length-enumerate_from}
use Rattle.std.proofs.lemmas.Map.Entries.{lookup_from_place}
use Rattle.std.proofs.lemmas.Map.Keys.{IsDistinct-from_sorted}
use Rattle.std.proofs.lemmas.Map.Text.{is_eq-slice_cmp}
use Rattle.lalrpop_norm_tree_names.specs.declared.names.NonterminalString.{NonterminalString}
use Rattle.lalrpop_norm_tree.specs.Accessors.{or_else}
use Rattle.lalrpop_norm_tree.specs.Items.{Action, user_code, fallible_code, lookahead_code, lookbehind_code, RuleData, AlternativeData}
use Rattle.lalrpop_norm_tree_parts.specs.Reprs.{ReprData}
use Rattle.lalrpop_norm_tree.specs.Symbols.{Part, Parts, no_parts, part_and}
use Rattle.lalrpop_norm_repr.specs.Actions.{ActionData, ActionKindData}
use Rattle.lalrpop_norm_repr.specs.Closed.{IsDefined, HasArguments, IsClosedProduction}
use Rattle.lalrpop_norm_repr.specs.Lowered.{LoweredGrammar}
use Rattle.lalrpop_norm_repr.specs.Productions.{EntryData}
use Rattle.lalrpop_norm_repr.specs.Tables.{TypeTable, type_of, found}
use Rattle.lalrpop_norm_repr.proofs.NameOrder.{names_total}
use Rattle.lalrpop_norm_lower.specs.Arguments.{part_list, patterns, pattern_at_place}
use Rattle.lalrpop_norm_lower.specs.Lowering.{public_rules_in, lowered_symbols, production_of}
use Rattle.lalrpop_norm_lower.specs.Shape.{OwnedAlternative, alternatives_in_order, IsCodeOf, IsKindOf, IsActionOf, productions_named, start_entry_of, rule_entry_of, lowered_entries, name_cmp}
use Rattle.lalrpop_norm_lower.proofs.ApartLemmas.{IsNamedIn}
use Rattle.lalrpop_norm_lower.proofs.ClauseLemmas.{named_from}
use Rattle.lalrpop_norm_lower.proofs.KeyLaws.{same_name, names_decide, found_is}
use Rattle.lalrpop_norm_theory.proofs.ListLemmas.{some_inner}

-- ---- lists

pub join_all : {X : Type 0} (P : X → Type 0) (xs ys : List X) → AllByRecursion P xs → AllByRecursion P ys → AllByRecursion P (xs ++ ys)
join_all P [] ys h i = i
join_all P (x ∷ xs) ys h i = (h.0, join_all P xs ys h.1 i)

pub map_all : {X Y : Type 0} (P : Y → Type 0) (f : X → Y) (xs : List X) → AllByRecursion (λ x. P (f x)) xs → AllByRecursion P (map f xs)
map_all P f [] h = tt
map_all P f (x ∷ xs) h = (h.0, map_all P f xs h.1)

pub flat_all : {X Y : Type 0} (P : Y → Type 0) (f : X → List Y) (xs : List X) → AllByRecursion (λ x. AllByRecursion P (f x)) xs → AllByRecursion P (flat_map f xs)
flat_all P f [] h = tt
flat_all P f (x ∷ xs) h = join_all P (f x) (flat_map f xs) h.0 (flat_all P f xs h.1)

-- ---- the action of a clause has its arguments

parts_long : (ps : Parts) → length (part_list ps) ≡ length (lowered_symbols ps)
parts_long no_parts = refl
parts_long (part_and p ps) = ap suc (parts_long ps)

patterns_long : (prefix : List ℕ) (ps : Parts) → length (patterns prefix (part_list ps)) ≡ length (lowered_symbols ps)
patterns_long prefix ps =
    length-map (enumerate_from 0 (part_list ps)) (λ (e : ℕ × Part). pattern_at_place prefix (part_list ps) e.0 e.1) ∙ length-enumerate_from 0 (part_list ps) ∙ parts_long ps

code_arguments : (prefix : List ℕ) (types : TypeTable) (type : ReprData) (a : AlternativeData) (kind : ActionKindData) → IsCodeOf prefix types type a kind → HasArguments types (lowered_symbols a.parts) kind
code_arguments prefix types type a kind h = subst (HasArguments types (lowered_symbols a.parts)) (sym h.is) (patterns_long prefix a.parts, h.typed)

kind_arguments : (prefix : List ℕ) (types : TypeTable) (type : ReprData) (a : AlternativeData) (kind : ActionKindData) (o : Option Action) → IsKindOf prefix types type a kind o → HasArguments types (lowered_symbols a.parts) kind
kind_arguments prefix types type a kind None h = code_arguments prefix types type a kind h
kind_arguments prefix types type a kind (Some (user_code c)) h = code_arguments prefix types type a kind h
kind_arguments prefix types type a kind (Some (fallible_code c)) h = code_arguments prefix types type a kind h
kind_arguments prefix types type a kind (Some lookahead_code) h = subst (HasArguments types (lowered_symbols a.parts)) (sym h) tt
kind_arguments prefix types type a kind (Some lookbehind_code) h = subst (HasArguments types (lowered_symbols a.parts)) (sym h) tt

-- ---- productions of a name

abbrev pub IsDefinedClause : LoweredGrammar → OwnedAlternative → Type 0
IsDefinedClause l c = AllByRecursion (IsDefined l) (lowered_symbols c.1.parts)

module _ (prefix : List ℕ) (l : LoweredGrammar) (n : NonterminalString) where
  closed_one : (k : ℕ) (c : OwnedAlternative) (d : ActionData) → bytes_eq n.0 c.0.0 ≡ true → slice_get l.actions k ≡ Some d → IsActionOf prefix l.types c d → IsDefinedClause l c → IsClosedProduction l n (production_of n k c.1)
  closed_one k c d is at h defined = record {
    nonterminal = refl;
    symbols = All-from_recursion (IsDefined l) (lowered_symbols c.1.parts) defined;
    action = d;
    numbered = at;
    answers = ap (λ m. type_of m l.types) ((names_decide n c.0).0 is) ∙ h.answers;
    arguments = kind_arguments prefix l.types d.ret_type c.1 d.kind c.1.action h.kind;
  }

  pub closed_from : (k : ℕ) (cs : List OwnedAlternative) (ds : List ActionData) → ((i : ℕ) (d : ActionData) → slice_get ds i ≡ Some d → slice_get l.actions (k + i) ≡ Some d) → AllZip (IsActionOf prefix l.types) cs ds → AllByRecursion (IsDefinedClause l) cs
      → AllByRecursion (IsClosedProduction l n) (named_from n k cs)
  closed_from k [] ds stand h defined = tt
  closed_from k (c ∷ cs) [] stand h defined = absurd h
  closed_from k (c ∷ cs) (d ∷ ds) stand h defined =
      by (bytes_eq n.0 c.0.0) refl (closed_from (k + 1) cs ds (λ i e at. ap (slice_get l.actions) (omega arith) ∙ stand (suc i) e at) h.1 defined.1)
    where
      rest : List (ℕ × OwnedAlternative)
      rest = filter (λ e. bytes_eq n.0 e.1.0.0) (enumerate_from (k + 1) cs)

      here : slice_get l.actions k ≡ Some d
      here = ap (slice_get l.actions) (omega arith) ∙ stand 0 d refl

      by : (b : Bool) → bytes_eq n.0 c.0.0 ≡ b → AllByRecursion (IsClosedProduction l n) (named_from n (k + 1) cs)
          → AllByRecursion (IsClosedProduction l n) (map (λ e. production_of n e.0 e.1.1) (cond b ((k, c) ∷ filter (λ e. bytes_eq n.0 e.1.0.0) (enumerate_from (k + 1) cs)) (filter (λ e. bytes_eq n.0 e.1.0.0) (enumerate_from (k + 1) cs))))
      by true is others = (closed_one k c d is here h.0 defined.0, others)
      by false is others = others

-- ---- looking up

abbrev pub HoldsNamed : List OwnedAlternative → NonterminalString × EntryData → Type 0
HoldsNamed clauses r = r.1.productions ≡ productions_named r.0 clauses

pub all_hold : (prefix : List ℕ) (rules : List RuleData) → AllByRecursion (HoldsNamed (alternatives_in_order prefix rules)) (lowered_entries prefix rules)
all_hold prefix rules =
    let clauses : List OwnedAlternative = alternatives_in_order prefix rules in
    join_all (HoldsNamed clauses) (map (start_entry_of prefix clauses) (public_rules_in rules)) (map (rule_entry_of clauses) rules) (starts (public_rules_in rules)) (each rules)
  where
    starts : (rs : List RuleData) → AllByRecursion (HoldsNamed (alternatives_in_order prefix rules)) (map (start_entry_of prefix (alternatives_in_order prefix rules)) rs)
    starts [] = tt
    starts (r ∷ rs) = (refl, starts rs)

    each : (rs : List RuleData) → AllByRecursion (HoldsNamed (alternatives_in_order prefix rules)) (map (rule_entry_of (alternatives_in_order prefix rules)) rs)
    each [] = tt
    each (r ∷ rs) = (refl, each rs)

-- what is found has the productions of that name
pub found_holds : (clauses : List OwnedAlternative) (n : NonterminalString) (e : EntryData) (rows : List (NonterminalString × EntryData)) → AllByRecursion (HoldsNamed clauses) rows → found n rows ≡ Some e → e.productions ≡ productions_named n clauses
found_holds clauses n e [] h is = cc
found_holds clauses n e (r ∷ rows) h is = by (bytes_eq n.0 r.0.0) refl is (found_holds clauses n e rows h.1)
  where
    by : (b : Bool) → bytes_eq n.0 r.0.0 ≡ b → cond b (Some r.1) (found n rows) ≡ Some e → (found n rows ≡ Some e → e.productions ≡ productions_named n clauses) → e.productions ≡ productions_named n clauses
    by true at there deeper = ap (λ (x : EntryData). x.productions) (sym (some_inner r.1 e there)) ∙ h.0 ∙ ap (λ m. productions_named m clauses) (sym ((names_decide n r.0).0 at))
    by false at there deeper = deeper there

tests_agree : {V : Type 0} (p q : NonterminalString → Bool) → ((x : NonterminalString) → p x ≡ q x) → (rows : List (NonterminalString × V)) → lookup p rows ≡ lookup q rows
tests_agree p q same [] = refl
tests_agree p q same (r ∷ rows) = ap (λ b. cond b (Some r.1) (lookup p rows)) (same r.0) ∙ ap (λ o. cond (q r.0) (Some r.1) o) (tests_agree p q same rows)

pub found_at_place : {V : Type 0} (rows : List (NonterminalString × V)) → IsStrictlySortedBy name_cmp (keys_of rows) → (i : ℕ) (r : NonterminalString × V) → slice_get rows i ≡ Some r → found r.0 rows ≡ Some r.1
found_at_place rows sorted i r at =
    found_is r.0 rows
    ∙ tests_agree (same_name r.0) (eq_by_cmp name_cmp r.0) (λ x. sym (is_eq-slice_cmp r.0.0 x.0)) rows
    ∙ lookup_from_place (eq_by_cmp_equiv names_total) rows i r.0 r.1 (IsDistinct-from_sorted name_cmp (keys_of rows) sorted) at

pub entry_some : (clauses : List OwnedAlternative) (n : NonterminalString) (rs : List RuleData) → IsNamedIn rs n → IsSome (found n (map (rule_entry_of clauses) rs))
entry_some clauses n [] h = cc
entry_some clauses n (r ∷ rs) h = by (bytes_eq n.0 r.name.0) h (entry_some clauses n rs)
  where
    by : (b : Bool) → (b || list_any (λ s. bytes_eq n.0 s.name.0) rs) ≡ true → (IsNamedIn rs n → IsSome (found n (map (rule_entry_of clauses) rs))) → IsSome (cond b (Some (rule_entry_of clauses r).1) (found n (map (rule_entry_of clauses) rs)))
    by true i deeper = refl
    by false i deeper = deeper i

pub behind_some : {V : Type 0} (n : NonterminalString) (xs ys : List (NonterminalString × V)) → IsSome (found n ys) → IsSome (found n (xs ++ ys))
behind_some n [] ys h = h
behind_some n (x ∷ xs) ys h = by (bytes_eq n.0 x.0.0) (behind_some n xs ys h)
  where
    by : (b : Bool) → IsSome (found n (xs ++ ys)) → IsSome (cond b (Some x.1) (found n (xs ++ ys)))
    by true i = refl
    by false i = i

pub else_some : {A : Type 0} (o p : Option A) → IsSome o → IsSome (or_else o p)
else_some None p h = cc
else_some (Some x) p h = refl
