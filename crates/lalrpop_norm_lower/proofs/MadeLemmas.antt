-- What lowering makes is what the grammar is lowered to, and it is closed.
use Rattle.std.proofs.Common.{◌≡◌, ◌∙◌, ℕ, ◌+◌, Bool, true, false, cond, List, [], ◌∷◌, ◌++◌, map, get_or, Some, None, refl, sym, ap, subst, bytes_eq, inl, inr, arith}
use Rattle.std.specs.Prelude.{All, Contains, IsSome, flat_map, filter_map, option_and_then, slice_get, Result, Ok, Err, IfOk}
use Rattle.std.specs.List.{AllByRecursion, AllZip}
use Rattle.std.specs.List as lists
use Rattle.std.specs.Map.{keys_of}
use Rattle.std.proofs.lemmas.List.Elements.{All-from_recursion}
use Rattle.std.proofs.lemmas.Option.{slice_get-get_or}
use Rattle.std.proofs.lemmas.Slice.Eq.{bytes_eq-Decides}
use Rattle.lalrpop_norm_tree_names.specs.declared.names.NonterminalString.{NonterminalString}
use Rattle.lalrpop_norm_tree_names.specs.declared.names.TerminalString.{TerminalString}
use Rattle.lalrpop_norm_tree_names.specs.declared.names.TerminalString.TheVariants as terminal_string
use Rattle.lalrpop_norm_tree.specs.Accessors.{or_else, first_of, intern_token_of}
use Rattle.lalrpop_norm_tree.specs.Items.{ItemData, match_item, extern_item, intern_item, rule_item, use_item, AlternativeData, RuleData, GrammarData}
use Rattle.lalrpop_norm_faults.specs.Faults.{Fault, Refuses}
use Rattle.lalrpop_norm_faults.specs.declared.failure.NormFailure.{NormFailure}
use Rattle.lalrpop_norm_theory.specs.Rounds.{In, IsDistinct}
use Rattle.lalrpop_norm_theory.proofs.RoundsLemmas.{in_left, in_right, in_flat}
use Rattle.lalrpop_norm_theory.proofs.BoolLemmas.{or_left, or_right}
use Rattle.lalrpop_norm_theory.proofs.ListLemmas.{some_inner}
use Rattle.lalrpop_norm_model.specs.Expanded.{names_used_by, names_in_parts, declared_symbols, names_in_kind, terminals_of, IsExpanded, IsTyped}
use Rattle.lalrpop_norm_model.specs.Features.{Features}
use Rattle.lalrpop_norm_model.specs.PlainRules.{all_rules}
use Rattle.lalrpop_norm_model.specs.Terminals.{terminals_in_parts, terminals_in_rule}
use Rattle.lalrpop_norm_repr.specs.declared.symbol.Symbol.{Symbol}
use Rattle.lalrpop_norm_repr.specs.declared.symbol.Symbol.TheVariants.{Nonterminal, Terminal}
use Rattle.lalrpop_norm_repr.specs.Closed.{IsDefined, IsClosedProduction, IsClosedEntry, IsClosed}
use Rattle.lalrpop_norm_repr.specs.Lowered.{LoweredGrammar}
use Rattle.lalrpop_norm_repr.specs.Productions.{EntryData}
use Rattle.lalrpop_norm_repr.specs.SymbolTypes.{symbol_type}
use Rattle.lalrpop_norm_repr.specs.Tables.{TypeTable, type_of, type_of_terminal, found}
use Rattle.lalrpop_norm_lower.specs.Active.{active_item, active_grammar}
use Rattle.lalrpop_norm_lower.specs.Carried.{uses_recovery, use_of}
use Rattle.lalrpop_norm_lower.specs.Conversions.{sorted_terminals, numbered_terminals}
use Rattle.lalrpop_norm_lower.specs.Lowering.{rules_among, public_rules_in, start_name, type_or_unit, rule_type}
use Rattle.lalrpop_norm_lower.specs.Made.{types_by_name, made_faults, made_tokens, made_terminals, IsMade}
use Rattle.lalrpop_norm_lower.specs.Shape.{OwnedAlternative, start_clause, rule_clauses, alternatives_in_order, IsActionOf, productions_named, start_entry_of, rule_entry_of, starts_of, rules_of_starts, lowered_entries, IsNameTable, IsTerminalTable, AreNumbers, HasStartTypes, IsLoweringOf}
use Rattle.lalrpop_norm_lower.proofs.ActionLemmas.{IsStartReady}
use Rattle.lalrpop_norm_lower.proofs.ApartLemmas.{all_with, all_by, IsNamedIn, each_named, kept_public, entries_distinct, entries_counted, starts_table, found_start}
use Rattle.lalrpop_norm_lower.proofs.BodyLemmas.{IsSound, IsSoundRule, all_made}
use Rattle.lalrpop_norm_lower.proofs.ClauseLemmas.{AreApart, AllApart}
use Rattle.lalrpop_norm_lower.proofs.ClosedLemmas.{join_all, map_all, flat_all, IsDefinedClause, closed_from, all_hold, found_holds, found_at_place, entry_some, behind_some, else_some}
use Rattle.lalrpop_norm_lower.proofs.FaultCounts.{rules_listed, IsFree, IsCounted, none_taken, none_miscounted}
use Rattle.lalrpop_norm_lower.proofs.KeyLaws.{names_decide, name_table, terminal_table}
use Rattle.lalrpop_norm_lower.proofs.SymbolCases.{parts_by, recovers}
use Rattle.lalrpop_norm_lower.proofs.TokenCounts.{tokens_read, terminals_same, error_is_none, all_distinct, tested, in_contains}
use Rattle.lalrpop_norm_lower.proofs.TokenLemmas.{numbers_of_places}
use Rattle.lalrpop_norm_lower.proofs.StartTypeLemmas.{AreTyped, some_back, start_types_added, kept_type}

-- ---- lists

all_in : {A : Type 0} (P : A → Type 0) (xs : List A) → ((x : A) → In x xs → P x) → AllByRecursion P xs
all_in P [] f = tt
all_in P (x ∷ xs) f = (f x (inl refl), all_in P xs (λ y i. f y (inr i)))

-- ---- items

uses_kept : (fs : Features) (items : List ItemData) → filter_map use_of (map (active_item fs) items) ≡ filter_map use_of items
uses_kept fs [] = refl
uses_kept fs (use_item u ∷ items) = ap (λ (us : List (List ℕ)). u ∷ us) (uses_kept fs items)
uses_kept fs (extern_item t ∷ items) = uses_kept fs items
uses_kept fs (match_item m ∷ items) = uses_kept fs items
uses_kept fs (intern_item t ∷ items) = uses_kept fs items
uses_kept fs (rule_item r ∷ items) = uses_kept fs items

intern_kept : (fs : Features) (items : List ItemData) → first_of intern_token_of (map (active_item fs) items) ≡ first_of intern_token_of items
intern_kept fs [] = refl
intern_kept fs (intern_item t ∷ items) = refl
intern_kept fs (extern_item t ∷ items) = intern_kept fs items
intern_kept fs (match_item m ∷ items) = intern_kept fs items
intern_kept fs (rule_item r ∷ items) = intern_kept fs items
intern_kept fs (use_item u ∷ items) = intern_kept fs items

-- ---- names

apart_in : (n : NonterminalString) (rs : List RuleData) → (In n.0 (map (λ (r : RuleData). r.name.0) rs) → ⊥) → AreApart n rs
apart_in n [] h = tt
apart_in n (r ∷ rs) h = (by (bytes_eq n.0 r.name.0) refl, apart_in n rs (λ i. h (inr i)))
  where
    by : (b : Bool) → bytes_eq n.0 r.name.0 ≡ b → bytes_eq n.0 r.name.0 ≡ false
    by true is = absurd (h (inl ((bytes_eq-Decides n.0 r.name.0).0 is)))
    by false is = is

all_apart : (rs : List RuleData) → IsDistinct (map (λ (r : RuleData). r.name.0) rs) → AllApart rs
all_apart [] d = tt
all_apart (r ∷ rs) d = (apart_in r.name rs d.0, all_apart rs d.1)

named_rule : (n : List ℕ) (rs : List RuleData) → In n (map (λ (r : RuleData). r.name.0) rs) → (r : RuleData) × In r rs × (r.name.0 ≡ n)
named_rule n [] i = absurd i
named_rule n (r ∷ rs) (inl e) = (r, inl refl, sym e)
named_rule n (r ∷ rs) (inr i) = let there = named_rule n rs i in (there.0, inr there.1, there.2)

in_named : (r : RuleData) (rs : List RuleData) → In r rs → IsNamedIn rs r.name
in_named r [] i = absurd i
in_named r (s ∷ rs) (inl e) = or_left (bytes_eq r.name.0 s.name.0) _ ((bytes_eq-Decides r.name.0 s.name.0).1 (ap (λ (x : RuleData). x.name.0) e))
in_named r (s ∷ rs) (inr i) = or_right (bytes_eq r.name.0 s.name.0) _ (in_named r rs i)

abbrev IsTypedRule : TypeTable → RuleData → Type 0
IsTypedRule types r = type_of r.name types ≡ Some (rule_type types r)

free_apart : (types : TypeTable) (n : NonterminalString) → type_of n types ≡ None → (rs : List RuleData) → AllByRecursion (IsTypedRule types) rs → AreApart n rs
free_apart types n free [] h = tt
free_apart types n free (s ∷ rs) h = (by (bytes_eq n.0 s.name.0) refl, free_apart types n free rs h.1)
  where
    by : (b : Bool) → bytes_eq n.0 s.name.0 ≡ b → bytes_eq n.0 s.name.0 ≡ false
    by true is = let none : type_of s.name types ≡ None = ap (λ m. type_of m types) (sym ((names_decide n s.name).0 is)) ∙ free in let some : type_of s.name types ≡ Some (rule_type types s) = h.0 in cc
    by false is = is

-- ---- a closed grammar

module _ (g : GrammarData) (rules : List RuleData) (types : TypeTable) (l : LoweredGrammar) (lowering : IsLoweringOf g rules types l) (defined : AllByRecursion (IsDefinedClause l) (alternatives_in_order g.prefix rules)) where
  entry_closed : (i : ℕ) (r : NonterminalString × EntryData) → slice_get l.nonterminals i ≡ Some r → IsClosedEntry l r
  entry_closed i r at =
      let clauses : List OwnedAlternative = alternatives_in_order g.prefix rules in
      let is : r.1.productions ≡ productions_named r.0 (alternatives_in_order g.prefix rules) =
      found_holds clauses r.0 r.1 (lowered_entries g.prefix rules) (all_hold g.prefix rules)
      (sym (lowering.nonterminals.holds r.0) ∙ found_at_place l.nonterminals lowering.nonterminals.in_order i r at) in
      subst (All (IsClosedProduction l r.0)) (sym is)
      (All-from_recursion (IsClosedProduction l r.0) (productions_named r.0 clauses)
      (closed_from g.prefix l r.0 0 clauses l.actions (λ j d there. ap (slice_get l.actions) (omega arith) ∙ there) lowering.actions defined))

  closed_over : IsClosed l
  closed_over = record {
    productions = λ k d lt. entry_closed k (get_or l.nonterminals k d) (slice_get-get_or l.nonterminals k d lt);
    numbers = λ t i at. (lowering.terminal_numbers.places t i).1 at;
    distinct = λ t i j at there. some_inner i j (sym ((lowering.terminal_numbers.places t i).1 at) ∙ (lowering.terminal_numbers.places t j).1 there);
  }

-- ---- the whole

module _ (fs : Features) (g : GrammarData) (types : TypeTable) (ok : IsExpanded g) (typed : IsTyped fs g (types_by_name types)) (clean : made_faults g.prefix types (rules_among g.items) ≡ []) (l : LoweredGrammar) (made : IsMade fs g types l) where
  in_all : (r : RuleData) → In r (rules_among g.items) → In r (all_rules g)
  in_all r i = subst (In r) (rules_listed g.items) i

  typed_all : AllByRecursion (IsTypedRule types) (rules_among g.items)
  typed_all = all_in (IsTypedRule types) (rules_among g.items) (λ r i. some_back (type_of r.name types) (typed.rules_typed r (in_all r i)))

  typed_public : AreTyped types (public_rules_in (rules_among g.items))
  typed_public = kept_public (IsTypedRule types) (rules_among g.items) typed_all

  apart_ok : AllApart (rules_among g.items)
  apart_ok = all_apart (rules_among g.items) (subst (λ (rs : List RuleData). IsDistinct (map (λ (r : RuleData). r.name.0) rs)) (sym (rules_listed g.items)) ok.distinct_names)

  free : AllByRecursion (IsFree g.prefix types) (public_rules_in (rules_among g.items))
  free = none_taken g.prefix types (rules_among g.items) clean

  starts_ok : AllByRecursion (λ p. AreApart (start_name g.prefix p.name) (rules_among g.items)) (public_rules_in (rules_among g.items))
  starts_ok = all_by (IsFree g.prefix types) (λ p. AreApart (start_name g.prefix p.name) (rules_among g.items)) (λ p none. free_apart types (start_name g.prefix p.name) none (rules_among g.items) typed_all) (public_rules_in (rules_among g.items)) free

  adds : HasStartTypes g.prefix (rules_among g.items) types l.types
  adds = start_types_added g.prefix (rules_among g.items) types l.types typed_public made.start_symbol_types made.names_in_order

  start_typed : (r : RuleData) → IsFree g.prefix types r → IsNamedIn (public_rules_in (rules_among g.items)) r.name → IsTypedRule types r → type_of (start_name g.prefix r.name) l.types ≡ Some (rule_type types r)
  start_typed r none named has =
      adds.names (start_name g.prefix r.name)
      ∙ ap (λ o. or_else o (option_and_then (λ m. type_of m types) (found (start_name g.prefix r.name) (rules_of_starts g.prefix (rules_among g.items))))) none
      ∙ ap (option_and_then (λ m. type_of m types)) (found_start g.prefix r.name (public_rules_in (rules_among g.items)) named)
      ∙ has

  starts_ready : AllByRecursion (IsStartReady g.prefix types l.types) (public_rules_in (rules_among g.items))
  starts_ready =
      all_with (IsFree g.prefix types) (λ r. IsNamedIn (public_rules_in (rules_among g.items)) r.name × IsTypedRule types r) (IsStartReady g.prefix types l.types)
      (λ r none both. (start_typed r none both.0 both.1, kept_type g.prefix (rules_among g.items) types l.types adds r.name (rule_type types r) both.1)) (public_rules_in (rules_among g.items)) free
      (all_with (λ r. IsNamedIn (public_rules_in (rules_among g.items)) r.name) (IsTypedRule types) (λ r. IsNamedIn (public_rules_in (rules_among g.items)) r.name × IsTypedRule types r)
      (λ r n t. (n, t)) (public_rules_in (rules_among g.items)) (each_named (public_rules_in (rules_among g.items))) typed_public)

  -- ---- symbols of alternatives

  used_name : (r : RuleData) (a : AlternativeData) → In r (rules_among g.items) → In a r.alternatives → (n : List ℕ) → In n (names_in_parts a.parts) → (s : RuleData) × In s (all_rules g) × (s.name.0 ≡ n)
  used_name r a i j n k =
      named_rule n (all_rules g)
      (ok.names_have_rules n
      (in_flat names_used_by n r (all_rules g) (in_all r i)
      (in_left n _ (flat_map names_in_kind (declared_symbols r)) (in_flat (λ (b : AlternativeData). names_in_parts b.parts) n a r.alternatives j k))))

  used_terminal : (r : RuleData) (a : AlternativeData) → In r (rules_among g.items) → In a r.alternatives → (t : TerminalString) → In t (terminals_in_parts a.parts) → In t (terminals_of fs g)
  used_terminal r a i j t k =
      typed.terminals_listed t (in_flat terminals_in_rule t r (all_rules g) (in_all r i) (in_flat (λ (b : AlternativeData). terminals_in_parts b.parts) t a r.alternatives j k))

  abbrev HasKept : Symbol → Type 0
  HasKept s = symbol_type s l.types ≡ Some (type_or_unit types s)

  kept_terminal : (t : TerminalString) → symbol_type (Terminal t) l.types ≡ Some (type_or_unit types (Terminal t))
  kept_terminal t = ap (λ (table : TypeTable). Some (type_of_terminal t table)) adds.rest

  kept_rule : (n : List ℕ) → (r : RuleData) × In r (all_rules g) × (r.name.0 ≡ n) → symbol_type (Nonterminal (record { 0 = n })) l.types ≡ Some (type_or_unit types (Nonterminal (record { 0 = n })))
  kept_rule n there =
      subst (λ (m : List ℕ). symbol_type (Nonterminal (record { 0 = m })) l.types ≡ Some (type_or_unit types (Nonterminal (record { 0 = m })))) there.2
      (kept_type g.prefix (rules_among g.items) types l.types adds there.0.name (rule_type types there.0) (some_back (type_of there.0.name types) (typed.rules_typed there.0 there.1)))

  sound : (r : RuleData) (a : AlternativeData) → In r (rules_among g.items) → In a r.alternatives → IsCounted a → IsSound types l.types a
  sound r a i j h = record {
    counted = h;
    typed = parts_by HasKept a.parts (ok.plain_symbols a (r, in_all r i, j)) (λ n k. kept_rule n (used_name r a i j n k)) (λ t k. kept_terminal t) (λ e. kept_terminal terminal_string.Error);
  }

  sound_rule : (r : RuleData) → In r (rules_among g.items) → IsTypedRule types r → AllByRecursion IsCounted r.alternatives → IsSoundRule types l.types r
  sound_rule r i has counts = record {
    known = kept_type g.prefix (rules_among g.items) types l.types adds r.name (rule_type types r) has;
    alternatives = all_with IsCounted (λ a. In a r.alternatives) (IsSound types l.types) (λ a h j. sound r a i j h) r.alternatives counts (all_in (λ a. In a r.alternatives) r.alternatives (λ a j. j));
  }

  rules_sound : AllByRecursion (IsSoundRule types l.types) (rules_among g.items)
  rules_sound =
      all_with (λ r. In r (rules_among g.items) × IsTypedRule types r) (λ r. AllByRecursion IsCounted r.alternatives) (IsSoundRule types l.types) (λ r both counts. sound_rule r both.0 both.1 counts) (rules_among g.items)
      (all_with (λ r. In r (rules_among g.items)) (IsTypedRule types) (λ r. In r (rules_among g.items) × IsTypedRule types r) (λ r i t. (i, t)) (rules_among g.items) (all_in (λ r. In r (rules_among g.items)) (rules_among g.items) (λ r i. i)) typed_all)
      (none_miscounted g.prefix types (rules_among g.items) clean)

  -- ---- terminals

  distinct_ok : IsDistinct (keys_of (made_tokens fs g))
  distinct_ok = subst IsDistinct (sym (terminals_same fs g ok)) typed.distinct_terminals

  all_distinct_ok : lists.IsDistinct Rattle.lalrpop_norm_repr.specs.Tables.same_terminal (made_terminals fs g)
  all_distinct_ok = all_distinct (keys_of (made_tokens fs g)) (uses_recovery (rules_among g.items)) distinct_ok (error_is_none fs g ok)

  tokens_ok : made_tokens fs g ≡ Rattle.lalrpop_norm_lower.specs.Carried.tokens_of (active_grammar fs g)
  tokens_ok = tokens_read fs g

  lowering_made : IsLoweringOf (active_grammar fs g) (rules_among g.items) types l
  lowering_made = record {
    actions = subst (AllZip (IsActionOf g.prefix l.types) (alternatives_in_order g.prefix (rules_among g.items))) (sym made.actions) (all_made g.prefix types l.types (public_rules_in (rules_among g.items)) (rules_among g.items) starts_ready rules_sound);
    nonterminals = subst (IsNameTable (lowered_entries g.prefix (rules_among g.items))) (sym (made.nonterminals ∙ entries_counted g.prefix (rules_among g.items) apart_ok starts_ok)) (name_table (lowered_entries g.prefix (rules_among g.items)) (entries_distinct g.prefix (rules_among g.items) apart_ok starts_ok));
    start_nonterminals = subst (IsNameTable (starts_of g.prefix (rules_among g.items))) (sym made.start_nonterminals) (starts_table g.prefix (rules_among g.items) apart_ok);
    all_terminals = made.all_terminals ∙ ap (λ rows. keys_of rows ++ cond (uses_recovery (rules_among g.items)) (terminal_string.Error ∷ []) []) tokens_ok;
    terminal_numbers = subst (AreNumbers l.terminals.all) (sym made.terminal_numbers)
        (subst (λ (ts : List TerminalString). AreNumbers ts (sorted_terminals [] (numbered_terminals 0 (made_terminals fs g)))) (sym made.all_terminals) (numbers_of_places (made_terminals fs g) all_distinct_ok));
    conversions = subst (IsTerminalTable (Rattle.lalrpop_norm_lower.specs.Carried.tokens_of (active_grammar fs g))) (sym made.conversions)
        (subst (λ rows. IsTerminalTable rows (sorted_terminals [] (made_tokens fs g))) tokens_ok (terminal_table (made_tokens fs g) (tested (keys_of (made_tokens fs g)) distinct_ok)));
    types = adds;
    prefix = made.prefix;
    lalr = made.lalr;
    codegen = made.codegen;
    uses_error_recovery = made.uses_error_recovery;
    uses = made.uses ∙ sym (uses_kept fs g.items);
    type_parameters = made.type_parameters;
    parameters = made.parameters;
    where_clauses = made.where_clauses;
    intern_token = made.intern_token ∙ sym (intern_kept fs g.items);
    module_attributes = made.module_attributes;
  }

  pub made_is_lowered : IsLoweringOf (active_grammar fs g) (all_rules g) types l
  made_is_lowered = subst (λ (rs : List RuleData). IsLoweringOf (active_grammar fs g) rs types l) (rules_listed g.items) lowering_made

  -- ---- closed

  rule_defined : (n : NonterminalString) → IsNamedIn (rules_among g.items) n → IsSome (type_of n types) → IsDefined l (Nonterminal n)
  rule_defined n named has =
      let clauses : List OwnedAlternative = alternatives_in_order g.prefix (rules_among g.items) in (
        subst IsSome (sym (lowering_made.nonterminals.holds n))
            (behind_some n (map (start_entry_of g.prefix clauses) (public_rules_in (rules_among g.items))) (map (rule_entry_of clauses) (rules_among g.items)) (entry_some clauses n (rules_among g.items) named)),
        subst IsSome (sym (adds.names n)) (else_some (type_of n types) _ has),
      )

  name_defined : (n : List ℕ) → (r : RuleData) × In r (all_rules g) × (r.name.0 ≡ n) → IsDefined l (Nonterminal (record { 0 = n }))
  name_defined n there =
      subst (λ (m : List ℕ). IsDefined l (Nonterminal (record { 0 = m }))) there.2
      (rule_defined there.0.name (in_named there.0 (rules_among g.items) (subst (In there.0) (sym (rules_listed g.items)) there.1)) (typed.rules_typed there.0 there.1))

  terminal_defined : (t : TerminalString) → In t (made_terminals fs g) → IsDefined l (Terminal t)
  terminal_defined t i = subst (λ (ts : List TerminalString). Contains ts t) (sym made.all_terminals) (in_contains t (made_terminals fs g) i)

  listed_defined : (t : TerminalString) → In t (terminals_of fs g) → IsDefined l (Terminal t)
  listed_defined t i =
      terminal_defined t (in_left t (keys_of (made_tokens fs g)) (cond (uses_recovery (rules_among g.items)) (terminal_string.Error ∷ []) []) (subst (In t) (sym (terminals_same fs g ok)) i))

  error_defined : uses_recovery (rules_among g.items) ≡ true → IsDefined l (Terminal terminal_string.Error)
  error_defined h =
      terminal_defined terminal_string.Error
      (in_right terminal_string.Error (keys_of (made_tokens fs g)) (cond (uses_recovery (rules_among g.items)) (terminal_string.Error ∷ []) [])
      (subst (λ b. In terminal_string.Error (cond b (terminal_string.Error ∷ []) [])) (sym h) (inl refl)))

  alternative_defined : (r : RuleData) (a : AlternativeData) → In r (rules_among g.items) → In a r.alternatives → IsDefinedClause l (r.name, a)
  alternative_defined r a i j =
      parts_by (IsDefined l) a.parts (ok.plain_symbols a (r, in_all r i, j)) (λ n k. name_defined n (used_name r a i j n k)) (λ t k. listed_defined t (used_terminal r a i j t k))
      (λ e. error_defined (recovers (rules_among g.items) r a i j e))

  clauses_defined : AllByRecursion (IsDefinedClause l) (alternatives_in_order g.prefix (rules_among g.items))
  clauses_defined =
      join_all (IsDefinedClause l) (map (start_clause g.prefix) (public_rules_in (rules_among g.items))) (flat_map rule_clauses (rules_among g.items))
      (map_all (IsDefinedClause l) (start_clause g.prefix) (public_rules_in (rules_among g.items))
      (kept_public (λ r. IsDefinedClause l (start_clause g.prefix r)) (rules_among g.items)
      (all_in (λ r. IsDefinedClause l (start_clause g.prefix r)) (rules_among g.items) (λ r i. (rule_defined r.name (in_named r (rules_among g.items) i) (typed.rules_typed r (in_all r i)), tt)))))
      (flat_all (IsDefinedClause l) rule_clauses (rules_among g.items)
      (all_in (λ r. AllByRecursion (IsDefinedClause l) (rule_clauses r)) (rules_among g.items)
      (λ r i. map_all (IsDefinedClause l) (λ a. (r.name, a)) r.alternatives (all_in (λ a. IsDefinedClause l (r.name, a)) r.alternatives (λ a j. alternative_defined r a i j)))))

  pub made_is_closed : IsClosed l
  made_is_closed = closed_over (active_grammar fs g) (rules_among g.items) types l lowering_made clauses_defined

-- ---- answers

-- what follows of an answer where there is no fault
pub where_clean : {T : Type 0} (r : Result T NormFailure) (faults : List Fault) (P Q : T → Type 0) → Refuses r faults → IfOk r P → (faults ≡ [] → (x : T) → P x → Q x) → IfOk r Q
where_clean (Ok x) faults P Q h p f = f h x p
where_clean (Err e) faults P Q h p f = tt
