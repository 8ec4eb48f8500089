-- A grammar with its entries has the rules that it had, and is expanded if it was.
use Rattle.std.proofs.Common.{◌≡◌, ◌⊎◌, ◌∙◌, append-nil, ℕ, ◌<◌, ◌≤◌, false, List, [], ◌∷◌, ◌++◌, length, map, Option, Some, None, inl, inr, refl, sym, ap, subst, arith}
use Rattle.std.specs.Prelude.{flat_map, option_to_list}
use Rattle.std.proofs.lemmas.Grind.{flat_map-append}
use Rattle.lalrpop_norm_tree_names.specs.declared.names.TerminalString.{TerminalString}
use Rattle.lalrpop_norm_tree_names.specs.declared.names.TerminalString.TheVariants.{Error}
use Rattle.lalrpop_norm_tree.specs.declared.items.MatchEntry.{MatchEntry}
use Rattle.lalrpop_norm_tree.specs.Accessors.{or_else, first_of, enum_token_of, match_token_of, intern_token_of}
use Rattle.lalrpop_norm_tree.specs.Items.{RuleData, EnumTokenData, MatchTokenData, InternTokenData, ItemData, GrammarData, match_item, extern_item, intern_item, rule_item, use_item}
use Rattle.lalrpop_norm_tree.specs.LoweredTypes.{holds_symbol}
use Rattle.lalrpop_norm_tree.specs.Types.{TypeData, ParameterData}
use Rattle.lalrpop_norm_theory.specs.Rounds.{In, IsDistinct}
use Rattle.lalrpop_norm_theory.proofs.RoundsLemmas.{in_left, in_right, in_cases, in_flat, of_flat}
use Rattle.lalrpop_norm_model.specs.PlainRules.{all_rules, rule_of_item}
use Rattle.lalrpop_norm_model.specs.Entries.{match_block, group_entries, entries_in, match_entries, terminal_named, user_names, IsEntry, written, added, AreEntries}
use Rattle.lalrpop_norm_model.specs.TerminalTypes.{extern_enum, intern_entries, entries_of}
use Rattle.lalrpop_norm_model.specs.TypeRelation.{IsRule}
use Rattle.lalrpop_norm_model.specs.CheckedTokens.{input_parameter, with_tokens, IsEnteredWith}
use Rattle.lalrpop_norm_model.specs.Expanded.{rule_names, names_used_by, enum_in, match_in, intern_in, enums, match_blocks, interns, mapped_terminals, types_in_clause, types_in_extern, types_beside_rules, terminals_converted, IsExpanded}
use Rattle.lalrpop_norm_model.specs.Laws.{EnteredAreExpanded}
use Rattle.lalrpop_norm_model.proofs.LevelLemmas.{of_map}

-- ---- internal tokens behind the items

module _ (t : InternTokenData) where
  -- what internal tokens say nothing of
  beside_none : {X : Type 0} (f : ItemData → List X) → f (intern_item t) ≡ [] → (items : List ItemData) → flat_map f (items ++ intern_item t ∷ []) ≡ flat_map f items
  beside_none f none items =
      flat_map-append f items (intern_item t ∷ []) ∙ ap (λ xs. flat_map f items ++ (xs ++ [])) none ∙ append-nil (flat_map f items)

  first_beside : {B : Type 0} (f : ItemData → Option B) → f (intern_item t) ≡ None → (items : List ItemData) → first_of f (items ++ intern_item t ∷ []) ≡ first_of f items
  first_beside f none [] = ap (λ o. or_else o None) none
  first_beside f none (x ∷ items) = ap (λ o. or_else (f x) o) (first_beside f none items)

  -- where there are no others
  only_intern : (items : List ItemData) → flat_map intern_in items ≡ [] → first_of intern_token_of (items ++ intern_item t ∷ []) ≡ Some t
  only_intern [] h = refl
  only_intern (intern_item u ∷ items) h = absurd (cc h)
  only_intern (match_item m ∷ items) h = only_intern items h
  only_intern (extern_item x ∷ items) h = only_intern items h
  only_intern (rule_item r ∷ items) h = only_intern items h
  only_intern (use_item u ∷ items) h = only_intern items h

  module _ (g : GrammarData) where
    pub rules_beside : all_rules (with_tokens t g) ≡ all_rules g
    rules_beside = beside_none rule_of_item refl g.items

    enums_beside : enums (with_tokens t g) ≡ enums g
    enums_beside = beside_none enum_in refl g.items

    matches_beside : match_blocks (with_tokens t g) ≡ match_blocks g
    matches_beside = beside_none match_in refl g.items

    interns_beside : interns g ≡ [] → interns (with_tokens t g) ≡ t ∷ []
    interns_beside none = flat_map-append intern_in g.items (intern_item t ∷ []) ∙ ap (λ xs. xs ++ t ∷ []) none

    pub enum_beside : extern_enum (with_tokens t g) ≡ extern_enum g
    enum_beside = first_beside enum_token_of refl g.items

    pub entries_beside : interns g ≡ [] → intern_entries (with_tokens t g) ≡ t.match_entries
    entries_beside none = ap entries_of (only_intern g.items none)

-- ---- without an extern enum

no_enums : (items : List ItemData) → first_of enum_token_of items ≡ None → flat_map enum_in items ≡ []
no_enums [] h = refl
no_enums (match_item m ∷ items) h = no_enums items h
no_enums (intern_item t ∷ items) h = no_enums items h
no_enums (rule_item r ∷ items) h = no_enums items h
no_enums (use_item u ∷ items) h = no_enums items h
no_enums (extern_item x ∷ items) h = by x.enum_token (no_enums items) h
  where
    by : (o : Option EnumTokenData) → (first_of enum_token_of items ≡ None → flat_map enum_in items ≡ []) → or_else o (first_of enum_token_of items) ≡ None →
        option_to_list o ++ flat_map enum_in items ≡ []
    by None f e = f e
    by (Some u) f e = absurd (cc e)

-- ---- the entries name no error terminal

block_listed : (items : List ItemData) (m : MatchTokenData) → first_of match_token_of items ≡ Some m → In m (flat_map match_in items)
block_listed [] m h = absurd (cc h)
block_listed (match_item n ∷ items) m h = inl (let same : n ≡ m = cc h in sym same)
block_listed (extern_item x ∷ items) m h = block_listed items m h
block_listed (intern_item t ∷ items) m h = block_listed items m h
block_listed (rule_item r ∷ items) m h = block_listed items m h
block_listed (use_item u ∷ items) m h = block_listed items m h

abbrev of_blocks : GrammarData → List TerminalString
of_blocks g = flat_map (λ (m : MatchTokenData). user_names (group_entries m.contents)) (match_blocks g)

abbrev of_interns : GrammarData → List TerminalString
of_interns g = flat_map (λ (t : InternTokenData). user_names t.match_entries) (interns g)

names_mapped : (g : GrammarData) (t : TerminalString) → In t (user_names (match_entries g)) → In t (mapped_terminals g)
names_mapped g t i = by (match_block g) refl i
  where
    by : (o : Option MatchTokenData) → match_block g ≡ o → In t (user_names (entries_in o)) → In t (mapped_terminals g)
    by None e j = absurd j
    by (Some m) e j =
        in_left t (of_blocks g) (of_interns g)
        (in_flat (λ (x : MatchTokenData). user_names (group_entries x.contents)) t m (match_blocks g) (block_listed g.items m e) j)

entry_plain : (g : GrammarData) → (In Error (mapped_terminals g) → ⊥) → (e : MatchEntry) → IsEntry g e → In Error (terminal_named e.user_name) → ⊥
entry_plain g none _ (written e i) j = none (names_mapped g Error (in_flat (λ (x : MatchEntry). terminal_named x.user_name) Error e (match_entries g) i j))
entry_plain g none _ (added l p i own some) (inl e) = cc e
entry_plain g none _ (added l p i own some) (inr j) = j

-- ---- expanded

module _ (g : GrammarData) (t : InternTokenData) (internal : extern_enum g ≡ None) (none : interns g ≡ []) (entries : AreEntries g t.match_entries) (x : IsExpanded g) where
  abbrev h : GrammarData
  h = with_tokens t g

  was_rule : (r : RuleData) → IsRule h r → IsRule g r
  was_rule r i = subst (λ (rs : List RuleData). In r rs) (rules_beside t g) i

  no_error_mapped : In Error (mapped_terminals h) → ⊥
  no_error_mapped i = elim (in_cases Error (of_blocks h) (of_interns h) i) [
    | inl j ↦ x.no_error_mapped (in_left Error (of_blocks g) (of_interns g)
        (subst (λ (ms : List MatchTokenData). In Error (flat_map (λ (m : MatchTokenData). user_names (group_entries m.contents)) ms)) (matches_beside t g) j))
    | inr j ↦
        elim (in_cases Error (user_names t.match_entries) []
        (subst (λ (us : List InternTokenData). In Error (flat_map (λ (u : InternTokenData). user_names u.match_entries) us)) (interns_beside t g none) j)) [
          | inl k ↦ (let (e, l, m) = of_flat (λ (y : MatchEntry). terminal_named y.user_name) Error t.match_entries k in
              entry_plain g x.no_error_mapped e ((entries.all e).0 l) m)
          | inr k ↦ k
        ]
  ]

  -- the one type beside those that were there
  input_bare : (y : TypeData) → In y (map (λ (p : ParameterData). p.type) (g.parameters ++ input_parameter ∷ [])) →
      In y (map (λ (p : ParameterData). p.type) g.parameters) ⊎ (holds_symbol y ≡ false)
  input_bare y i =
      let (p, j, e) = of_map (λ (q : ParameterData). q.type) y (g.parameters ++ input_parameter ∷ []) i in
      elim (in_cases p g.parameters (input_parameter ∷ []) j) [
        | inl k ↦ inl (subst (λ z. In z (map (λ (q : ParameterData). q.type) g.parameters)) (sym e) (listed p g.parameters k))
        | inr k ↦ inr (elim k [ inl same ↦ ap holds_symbol (e ∙ ap (λ (q : ParameterData). q.type) same) | inr l ↦ absurd l ])
      ]
    where
      listed : (p : ParameterData) (ps : List ParameterData) → In p ps → In p.type (map (λ (q : ParameterData). q.type) ps)
      listed p [] k = absurd k
      listed p (q ∷ ps) (inl e) = inl (ap (λ (z : ParameterData). z.type) e)
      listed p (q ∷ ps) (inr k) = inr (listed p ps k)

  bare_types : (y : TypeData) → In y (types_beside_rules h) → holds_symbol y ≡ false
  bare_types y i = elim (in_cases y (map (λ (p : ParameterData). p.type) h.parameters ++ clauses) (flat_map types_in_extern h.items) i) [
    | inl j ↦ elim (in_cases y (map (λ (p : ParameterData). p.type) h.parameters) clauses j) [
      | inl k ↦ elim (input_bare y k) [
        | inl m ↦ x.symbols_declared_only y (in_left y (parameters ++ clauses) externs (in_left y parameters clauses m))
        | inr e ↦ e
      ]
      | inr k ↦ x.symbols_declared_only y (in_left y (parameters ++ clauses) externs (in_right y parameters clauses k))
    ]
    | inr j ↦ x.symbols_declared_only y (in_right y (parameters ++ clauses) externs (subst (λ (ys : List TypeData). In y ys) (beside_none t types_in_extern refl g.items) j))
  ]
    where
      parameters : List TypeData
      parameters = map (λ (p : ParameterData). p.type) g.parameters

      clauses : List TypeData
      clauses = flat_map types_in_clause g.where_clauses

      externs : List TypeData
      externs = flat_map types_in_extern g.items

  names_same : rule_names h ≡ rule_names g
  names_same = ap (λ (rs : List RuleData). map (λ (r : RuleData). r.name.0) rs) (rules_beside t g)

  at_most_none : (es : List EnumTokenData) → es ≡ [] → 0 < length es → ⊥
  at_most_none es e some = let zero : 0 < 0 = subst (λ (ys : List EnumTokenData). 0 < length ys) e some in omega (zero, arith)

  no_enum : enums h ≡ []
  no_enum = enums_beside t g ∙ no_enums g.items internal

  with_entries : IsExpanded h
  with_entries = record {
    no_macros = λ r i. x.no_macros r (was_rule r i);
    no_conditions = λ a i. x.no_conditions a (i.0, was_rule i.0 i.1, i.2);
    plain_symbols = λ a i. x.plain_symbols a (i.0, was_rule i.0 i.1, i.2);
    distinct_names = subst IsDistinct (sym names_same) x.distinct_names;
    names_have_rules = subst (λ (rs : List RuleData). (n : List ℕ) → In n (flat_map names_used_by rs) → In n (map (λ (r : RuleData). r.name.0) rs)) (sym (rules_beside t g)) x.names_have_rules;
    no_error_converted = subst (λ (es : List EnumTokenData). In Error (flat_map (λ (e : EnumTokenData). terminals_converted e.conversions) es) → ⊥) (sym (enums_beside t g)) x.no_error_converted;
    no_error_mapped = no_error_mapped;
    one_enum = subst (λ (es : List EnumTokenData). length es ≤ 1) (sym (enums_beside t g)) x.one_enum;
    one_match = subst (λ (ms : List MatchTokenData). length ms ≤ 1) (sym (matches_beside t g)) x.one_match;
    one_intern = subst (λ (us : List InternTokenData). length us ≤ 1) (sym (interns_beside t g none)) (omega arith);
    enum_without_match = λ some. absurd (at_most_none (enums h) no_enum some);
    enum_without_intern = λ some. absurd (at_most_none (enums h) no_enum some);
    symbols_declared_only = bare_types;
    plain_in_types = λ r k i j. x.plain_in_types r k (was_rule r i) j;
    known_attributes = x.known_attributes;
  }

entered_case : (g h : GrammarData) (o : Option EnumTokenData) → extern_enum g ≡ o → interns g ≡ [] → IsExpanded g → IsEnteredWith o g h → IsExpanded h
entered_case g h (Some e) is none x same = subst IsExpanded (sym same) x
entered_case g h None is none x (t, entries) = subst IsExpanded (sym entries.grammar) (with_entries g t is none entries.entries x)

pub entered_expanded : EnteredAreExpanded
entered_expanded g h x none entered = entered_case g h (extern_enum g) refl none x entered
