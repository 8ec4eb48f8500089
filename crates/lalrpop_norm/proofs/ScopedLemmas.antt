-- Where no fault of names holds, each name of a rule is its own and each name in a symbol has a meaning.
use Rattle.std.proofs.Common.{◌≡◌, inl, inr, ℕ, suc, List, [], ◌∷◌, ◌++◌, map, length, Bool, true, false, not, ◌&&◌, ◌||◌, Option, Some, None, refl, sym, ap, ap₂, ◌∙◌, subst, arith}
use Rattle.std.specs.Prelude.{flat_map, option_map, is_some, nat_eq, bytes_eq, if◌then◌else◌}
use Rattle.std.proofs.lemmas.List.{map-append}
use Rattle.std.proofs.lemmas.Slice.Eq.{bytes_eq-Decides}
use Rattle.lalrpop_norm_tree_names.specs.declared.names.Span.{Span}
use Rattle.lalrpop_norm_tree_names.specs.declared.names.NonterminalString.{NonterminalString}
use Rattle.lalrpop_norm_tree_names.specs.declared.names.TerminalString.{TerminalString}
use Rattle.lalrpop_norm_tree_names.specs.declared.names.TerminalString.TheVariants.{Literal, Bare, Error}
use Rattle.lalrpop_norm_tree.specs.declared.items.MatchItem.{MatchItem}
use Rattle.lalrpop_norm_tree.specs.declared.items.MatchItem.TheVariants.{CatchAll, Unmapped, Mapped}
use Rattle.lalrpop_norm_tree.specs.declared.items.MatchMapping.TheVariants as mapping
use Rattle.lalrpop_norm_tree.specs.Items.{AlternativeData, RuleData, ConversionData, ItemData, GrammarData, match_item, extern_item, intern_item, rule_item, use_item}
use Rattle.lalrpop_norm_tree.specs.Symbols as written
use Rattle.lalrpop_norm_tree.specs.Symbols.{Kind, Part, Parts, at, no_parts, part_and}
use Rattle.lalrpop_norm_theory.specs.Symbols.{Name}
use Rattle.lalrpop_norm_theory.specs.Rounds.{In, IsDistinct}
use Rattle.lalrpop_norm_faults.specs.declared.kind.FaultKind.TheVariants.{NameDeclaredTwice, Arity}
use Rattle.lalrpop_norm_faults.specs.Faults.{Fault, fault_if}
use Rattle.lalrpop_norm_model.specs.Enabled.{all_places}
use Rattle.lalrpop_norm_model.specs.Scopes.{Definition, a_rule, a_macro, a_terminal, Global, rule_definition, rule_globals, conversion_globals, match_globals, bare_global, match_global, conversions_in, globals, definition_of, Sense, an_argument, global_sense, is_argument, sense_of, by_sense, resolved_kind, resolved_part, resolved_parts, resolved_alternative, resolved_grammar}
use Rattle.lalrpop_norm_model.specs.Levels.{Leveled, every, level_at, side_at, leveled_at, with_levels, without_levels}
use Rattle.lalrpop_norm_model.specs.WrittenRules.{WrittenRule, written_rule_with_levels, flat_rule, rules_through, leveled_rules, flat_rules, rule_named}
use Rattle.lalrpop_norm_model.specs.Grammars.{is_nil}
use Rattle.lalrpop_norm_model.specs.Scoped.{is_rule, takes, is_macro_for, is_scoped_kind, is_scoped, are_scoped, NamesAreScoped, IsScoped}
use Rattle.lalrpop_norm_model.specs.PlainRules.{rule_of_item, all_rules}
use Rattle.lalrpop_norm_model.specs.PlainTables.{IsSettled}
use Rattle.lalrpop_norm_model.specs.Expanded.{rule_names}
use Rattle.lalrpop_norm_model.proofs.LevelLemmas.{in_map, of_map}
use Rattle.lalrpop_norm_model.proofs.WrittenLemmas.{of_numbered, scoped_as_written}
use Rattle.lalrpop_norm_theory.proofs.RoundsLemmas.{in_cases}
use Rattle.lalrpop_norm_model.proofs.GrammarLemmas.{rule_item_of, of_flat, distinct_left, leveled_from, flat_from}
use Rattle.lalrpop_norm_model.proofs.LevelRuleLemmas.{resolved_rule_places}
use Rattle.lalrpop_norm_resolve.specs.NameFaults.{repeated_faults, repeated_argument_faults, condition_faults, id_faults, nonterminal_faults, macro_name_faults, parts_count, kind_name_faults, part_name_faults, parts_name_faults, alternative_name_faults, item_name_faults, resolve_faults}
use Rattle.lalrpop_norm_faults.proofs.FaultLemmas.{left_none, right_none, not_fault}

-- ---- faults

pub none_of : {A : Type 0} (f : A → List Fault) (xs : List A) (x : A) → flat_map f xs ≡ [] → In x xs → f x ≡ []
none_of f [] x h i = absurd i
none_of {A} f (y ∷ xs) x h (inl e) = subst (λ (z : A). f z ≡ []) (sym e) (left_none (f y) (flat_map f xs) h)
none_of f (y ∷ xs) x h (inr i) = none_of f xs x (right_none (f y) (flat_map f xs) h) i

-- ---- names occur once

not_before : (before : List Global) (d : Global) (n : Name) → definition_of (before ++ d ∷ []) n ≡ None → (definition_of before n ≡ None) × (bytes_eq d.name n ≡ false)
not_before [] d n h = by (bytes_eq d.name n) h
  where
    by : (b : Bool) → (if b then Some d.definition else None) ≡ None → (let none : Option Definition = None in none ≡ None) × (b ≡ false)
    by true e = absurd (cc e)
    by false e = (refl, refl)
not_before (x ∷ before) d n h = by (bytes_eq x.name n) (not_before before d n) h
  where
    by : (b : Bool) → (definition_of (before ++ d ∷ []) n ≡ None → (definition_of before n ≡ None) × (bytes_eq d.name n ≡ false)) →
        (if b then Some x.definition else definition_of (before ++ d ∷ []) n) ≡ None →
        ((if b then Some x.definition else definition_of before n) ≡ None) × (bytes_eq d.name n ≡ false)
    by true f e = absurd (cc e)
    by false f e = f e

not_defined : (o : Option Definition) → is_some o ≡ false → o ≡ None
not_defined None h = refl
not_defined (Some d) h = absurd (cc h)

abbrev global_name : Global → Name
global_name d = d.name

once_after : (before ds : List Global) → repeated_faults before ds ≡ [] →
    ((d : Global) → In d ds → definition_of before d.name ≡ None) × IsDistinct (map global_name ds)
once_after before [] h = ((λ d i. absurd i), tt)
once_after before (d ∷ ds) h =
    let here = fault_if (is_some (definition_of before d.name)) (NameDeclaredTwice, d.span) in
    let (others, once) = once_after (before ++ d ∷ []) ds (right_none here (repeated_faults (before ++ d ∷ []) ds) h) in (
      first others,
      (apart others, once),
    )
  where
    first : ((x : Global) → In x ds → definition_of (before ++ d ∷ []) x.name ≡ None) → (x : Global) → In x (d ∷ ds) → definition_of before x.name ≡ None
    first others x (inl e) =
        subst (λ (y : Global). definition_of before y.name ≡ None) (sym e)
        (not_defined (definition_of before d.name) (not_fault (is_some (definition_of before d.name)) (NameDeclaredTwice, d.span)
        (left_none (fault_if (is_some (definition_of before d.name)) (NameDeclaredTwice, d.span)) (repeated_faults (before ++ d ∷ []) ds) h)))
    first others x (inr i) = (not_before before d x.name (others x i)).0

    apart : ((x : Global) → In x ds → definition_of (before ++ d ∷ []) x.name ≡ None) → In d.name (map global_name ds) → ⊥
    apart others i =
        let (x, j, e) = of_map global_name d.name ds i in
        let other = (not_before before d x.name (others x j)).1 in
        cc (other, (bytes_eq-Decides d.name x.name).1 e)

rule_globals_named : (items : List ItemData) → map global_name (flat_map rule_globals items) ≡ map (λ (d : RuleData). d.name.0) (flat_map rule_of_item items)
rule_globals_named [] = refl
rule_globals_named (rule_item d ∷ items) = ap (λ ns. d.name.0 ∷ ns) (rule_globals_named items)
rule_globals_named (match_item m ∷ items) = rule_globals_named items
rule_globals_named (extern_item t ∷ items) = rule_globals_named items
rule_globals_named (intern_item t ∷ items) = rule_globals_named items
rule_globals_named (use_item u ∷ items) = rule_globals_named items

abbrev pub terminal_globals : GrammarData → List Global
terminal_globals g = flat_map conversion_globals g.items ++ flat_map match_globals g.items

-- no two rules share a name
pub names_once : (g : GrammarData) → resolve_faults g ≡ [] → IsDistinct (rule_names g)
names_once g h =
    subst IsDistinct (rule_globals_named g.items)
    (distinct_left (map global_name (flat_map rule_globals g.items)) (map global_name (terminal_globals g))
    (subst IsDistinct (map-append global_name (flat_map rule_globals g.items) (terminal_globals g))
    (once_after [] (globals g) (left_none (repeated_faults [] (globals g)) (flat_map (item_name_faults (globals g)) g.items) h)).1))

-- ---- what names mean

abbrev IsTerminal : Global → Type 0
IsTerminal d = d.definition ≡ a_terminal

bare_terminal : (t : TerminalString) (s : Span) (d : Global) → In d (bare_global t s) → IsTerminal d
bare_terminal (Bare a) s d (inl e) = ap (λ (x : Global). x.definition) e
bare_terminal (Bare a) s d (inr i) = absurd i
bare_terminal (Literal l) s d i = absurd i
bare_terminal Error s d i = absurd i

conversion_terminal : (i : ItemData) (d : Global) → In d (conversion_globals i) → IsTerminal d
conversion_terminal (extern_item t) d h =
    let (c, j, k) = of_flat (λ (c : ConversionData). bare_global c.from c.span) d (conversions_in t.enum_token) h in bare_terminal c.from c.span d k
conversion_terminal (rule_item r) d h = absurd h
conversion_terminal (match_item m) d h = absurd h
conversion_terminal (intern_item t) d h = absurd h
conversion_terminal (use_item u) d h = absurd h

mapped_terminal : (m : MatchItem) (d : Global) → In d (match_global m) → IsTerminal d
mapped_terminal (Mapped l (mapping.Terminal t) s) d h = bare_terminal t s d h
mapped_terminal (Mapped l mapping.Skip s) d h = absurd h
mapped_terminal (Unmapped l s) d h = absurd h
mapped_terminal (CatchAll s) d h = absurd h

match_terminal : (i : ItemData) (d : Global) → In d (match_globals i) → IsTerminal d
match_terminal (match_item m) d h =
    let (ms, j, k) = of_flat (flat_map match_global) d m.contents h in
    let (x, p, q) = of_flat match_global d ms k in mapped_terminal x d q
match_terminal (rule_item r) d h = absurd h
match_terminal (extern_item t) d h = absurd h
match_terminal (intern_item t) d h = absurd h
match_terminal (use_item u) d h = absurd h

only_terminals : (g : GrammarData) (d : Global) → In d (terminal_globals g) → IsTerminal d
only_terminals g d h = elim (in_cases d (flat_map conversion_globals g.items) (flat_map match_globals g.items) h) [
  | inl i ↦ (let (x, j, k) = of_flat conversion_globals d g.items i in conversion_terminal x d k)
  | inr i ↦ (let (x, j, k) = of_flat match_globals d g.items i in match_terminal x d k)
]

definition_listed : (ds : List Global) (n : Name) (x : Definition) → definition_of ds n ≡ Some x → (d : Global) × In d ds × (d.definition ≡ x)
definition_listed [] n x h = absurd (grind arith)
definition_listed (d ∷ ds) n x h = by (bytes_eq d.name n) (definition_listed ds n x) h
  where
    by : (b : Bool) → (definition_of ds n ≡ Some x → (e : Global) × In e ds × (e.definition ≡ x)) → (if b then Some d.definition else definition_of ds n) ≡ Some x →
        (e : Global) × In e (d ∷ ds) × (e.definition ≡ x)
    by true f e = (d, inl refl, cc e)
    by false f e = (let (c, i, s) = f e in (c, inr i, s))

-- the definition of a rule of that name, else another
abbrev pub defined_as : Option WrittenRule → Option Definition → Option Definition
defined_as None other = other
defined_as (Some w) other = Some (rule_definition (length w.args))

module _ (f : RuleData → WrittenRule) (named : (d : RuleData) → (f d).name ≡ d.name.0) (argued : (d : RuleData) → (f d).args ≡ d.args) where
  pub rules_defined : (more : List Global) (n : Name) (items : List ItemData) →
      definition_of (flat_map rule_globals items ++ more) n ≡ defined_as (rule_named (rules_through (λ d. f d ∷ []) items) n) (definition_of more n)
  rules_defined more n [] = refl
  rules_defined more n (rule_item d ∷ items) =
      by (bytes_eq d.name.0 n) (rules_defined more n items)
      ∙ ap (λ (m : Name). defined_as (if bytes_eq m n then Some (f d) else rule_named (rules_through (λ d. f d ∷ []) items) n) (definition_of more n)) (sym (named d))
    where
      by : (b : Bool) →
          definition_of (flat_map rule_globals items ++ more) n ≡ defined_as (rule_named (rules_through (λ d. f d ∷ []) items) n) (definition_of more n) →
          (if b then Some (rule_definition (length d.args)) else definition_of (flat_map rule_globals items ++ more) n)
          ≡ defined_as (if b then Some (f d) else rule_named (rules_through (λ d. f d ∷ []) items) n) (definition_of more n)
      by true e = ap (λ (xs : List NonterminalString). Some (rule_definition (length xs))) (sym (argued d))
      by false e = e
  rules_defined more n (match_item m ∷ items) = rules_defined more n items
  rules_defined more n (extern_item t ∷ items) = rules_defined more n items
  rules_defined more n (intern_item t ∷ items) = rules_defined more n items
  rules_defined more n (use_item u ∷ items) = rules_defined more n items

  module _ (g : GrammarData) where
    abbrev rules_read : List WrittenRule
    rules_read = rules_through (λ d. f d ∷ []) g.items

    -- a rule's name is found among the rules, with its arguments
    defined_rule : (n : Name) (x : Definition) → definition_of (globals g) n ≡ Some x → (x ≡ a_terminal → ⊥) →
        (w : WrittenRule) × (rule_named rules_read n ≡ Some w) × (rule_definition (length w.args) ≡ x)
    defined_rule n x h unlike = by (rule_named rules_read n) refl (sym (rules_defined (terminal_globals g) n g.items) ∙ h)
      where
        by : (o : Option WrittenRule) → rule_named rules_read n ≡ o → defined_as o (definition_of (terminal_globals g) n) ≡ Some x →
            (w : WrittenRule) × (rule_named rules_read n ≡ Some w) × (rule_definition (length w.args) ≡ x)
        by None e k = (let (d, i, is) = definition_listed (terminal_globals g) n x k in absurd (unlike (sym is ∙ only_terminals g d i)))
        by (Some w) e k = (w, e, cc k)

    is_a_rule : (n : Name) → definition_of (globals g) n ≡ Some a_rule → is_rule (rule_named rules_read n) ≡ true
    is_a_rule n h =
        let (w, e, same) = defined_rule n a_rule h (λ s. absurd (cc s)) in
        ap is_rule e ∙ by w.args same
      where
        by : (xs : List NonterminalString) → rule_definition (length xs) ≡ a_rule → not (not (is_nil xs)) ≡ true
        by [] s = refl
        by (a ∷ xs) s = absurd (cc s)

    is_a_macro : (n : Name) (k : ℕ) (qs : Parts) → definition_of (globals g) n ≡ Some (a_macro k) → parts_count qs ≡ k → is_macro_for qs (rule_named rules_read n) ≡ true
    is_a_macro n k qs h count =
        let (w, e, same) = defined_rule n (a_macro k) h (λ s. absurd (cc s)) in
        ap (is_macro_for qs) e ∙ by w.args same
      where
        taken : (xs : List NonterminalString) (ps : Parts) → length xs ≡ parts_count ps → takes xs ps ≡ true
        taken [] no_parts s = refl
        taken [] (part_and p ps) s = absurd (cc s)
        taken (a ∷ xs) no_parts s = absurd (cc s)
        taken (a ∷ xs) (part_and p ps) s = taken xs ps (cc s)

        by : (xs : List NonterminalString) → rule_definition (length xs) ≡ a_macro k → (not (is_nil xs) && takes xs qs) ≡ true
        by [] s = absurd (cc s)
        by (a ∷ xs) s = (let same : suc (length xs) ≡ k = cc s in taken (a ∷ xs) qs (same ∙ sym count))

    -- ---- symbols

    module _ (args : List NonterminalString) where
      abbrev sense : Name → Option Sense
      sense = sense_of (globals g) args

      abbrev meant : Bool → Option Definition → Option Sense
      meant b o = if b then Some an_argument else global_sense o

      nonterminal_scoped : (s : Span) (n : Name) (b : Bool) → is_argument args n ≡ b → (o : Option Definition) → definition_of (globals g) n ≡ o →
          nonterminal_faults s (meant b o) ≡ [] → (b || is_rule (rule_named rules_read n)) ≡ true
      unfolding nonterminal_faults
      nonterminal_scoped s n true e o d h = refl
      nonterminal_scoped s n false e None d h = absurd (cc h)
      nonterminal_scoped s n false e (Some a_rule) d h = is_a_rule n d
      nonterminal_scoped s n false e (Some a_terminal) d h = absurd (cc h)
      nonterminal_scoped s n false e (Some (a_macro k)) d h = absurd (cc h)

      macro_scoped : (s : Span) (n : Name) (qs : Parts) (b : Bool) → is_argument args n ≡ b → (o : Option Definition) → definition_of (globals g) n ≡ o →
          macro_name_faults s (parts_count qs) (meant b o) ≡ [] → (not b && is_macro_for qs (rule_named rules_read n)) ≡ true
      unfolding macro_name_faults
      macro_scoped s n qs true e o d h = absurd (cc h)
      macro_scoped s n qs false e None d h = absurd (cc h)
      macro_scoped s n qs false e (Some a_rule) d h = absurd (cc h)
      macro_scoped s n qs false e (Some a_terminal) d h = absurd (cc h)
      macro_scoped s n qs false e (Some (a_macro k)) d h = is_a_macro n k qs d (sym (counted (not_fault (not (nat_eq k (parts_count qs))) (Arity, s) h)))
        where
          counted : not (nat_eq k (parts_count qs)) ≡ false → k ≡ parts_count qs
          counted x = grind arith

      no_id : (s : Span) (a : Name) (b : Bool) → (o : Option Definition) → id_faults s (meant b o) ≡ [] → by_sense (meant b o) a ≡ written.ambiguous_id a → ⊥
      unfolding id_faults
      no_id s a true o h e = cc e
      no_id s a false None h e = cc h
      no_id s a false (Some a_rule) h e = cc e
      no_id s a false (Some a_terminal) h e = cc e
      no_id s a false (Some (a_macro k)) h e = cc h

      both_true : (x y z : Bool) → (x && y) ≡ true → z ≡ true → (x && (y && z)) ≡ true
      both_true true true true h i = refl
      both_true true true false h i = i
      both_true true false z h i = h
      both_true false y z h i = h

      mutual
        kind_scoped : (s : Span) (k : Kind) → kind_name_faults sense s k ≡ [] → resolved_kind sense k ≡ k → is_scoped_kind rules_read args k ≡ true
        kind_scoped s (written.nonterminal n) h e = nonterminal_scoped s n (is_argument args n) refl (definition_of (globals g) n) refl h
        kind_scoped s (written.call n qs) h e =
            both_true (not (is_argument args n)) (is_macro_for qs (rule_named rules_read n)) (are_scoped rules_read args qs)
            (macro_scoped s n qs (is_argument args n) refl (definition_of (globals g) n) refl (left_none (macro_name_faults s (parts_count qs) (sense n)) (parts_name_faults sense qs) h))
            (parts_scoped qs (right_none (macro_name_faults s (parts_count qs) (sense n)) (parts_name_faults sense qs) h) (cc e))
        kind_scoped s (written.group qs) h e = parts_scoped qs h (cc e)
        kind_scoped s (written.repeated op p) h e = part_scoped p h (cc e)
        kind_scoped s (written.chosen p) h e = part_scoped p h (cc e)
        kind_scoped s (written.named n p) h e = part_scoped p h (cc e)
        kind_scoped s (written.tupled ns p) h e = part_scoped p h (cc e)
        kind_scoped s (written.ambiguous_id a) h e = absurd (no_id s a (is_argument args a) (definition_of (globals g) a) h e)
        kind_scoped s _ h e = refl

        part_scoped : (p : Part) → part_name_faults sense p ≡ [] → resolved_part sense p ≡ p → is_scoped rules_read args p ≡ true
        part_scoped (at s k) h e = kind_scoped s k h (cc e)

        parts_scoped : (qs : Parts) → parts_name_faults sense qs ≡ [] → resolved_parts sense qs ≡ qs → are_scoped rules_read args qs ≡ true
        parts_scoped no_parts h e = refl
        parts_scoped (part_and p qs) h e =
            let here : resolved_part sense p ≡ p = cc e in
            let there : resolved_parts sense qs ≡ qs = cc e in
            ap₂ ◌&&◌ (part_scoped p (left_none (part_name_faults sense p) (parts_name_faults sense qs) h) here)
            (parts_scoped qs (right_none (part_name_faults sense p) (parts_name_faults sense qs) h) there)

    -- ---- rules

    fixed : {A : Type 0} (k : A → A) (xs : List A) (x : A) → map k xs ≡ xs → In x xs → k x ≡ x
    fixed k [] x e h = absurd h
    fixed {A} k (y ∷ xs) x e (inl i) = subst (λ (z : A). k z ≡ z) (sym i) (cc e)
    fixed k (y ∷ xs) x e (inr h) = fixed k xs x (cc e) h

    tested : (s : Name → Option Sense) (a : AlternativeData) → alternative_name_faults s a ≡ [] → parts_name_faults s a.parts ≡ []
    unfolding alternative_name_faults
    tested s a h = right_none (condition_faults s a.condition) (parts_name_faults s a.parts) h

    -- the names in an alternative of a rule without faults, whose names are resolved
    pub alternative_named : resolve_faults g ≡ [] → resolved_grammar g ≡ g → (d : RuleData) → In d (all_rules g) → (a : AlternativeData) → In a d.alternatives →
        are_scoped rules_read d.args a.parts ≡ true
    alternative_named h e d i a j =
        let ds = globals g in
        let item : In (rule_item d) g.items = rule_item_of g d i in
        let rule = none_of (item_name_faults ds) g.items (rule_item d) (right_none (repeated_faults [] ds) (flat_map (item_name_faults ds) g.items) h) item in
        let faults = none_of (alternative_name_faults (sense_of ds d.args)) d.alternatives a
        (right_none (repeated_argument_faults d.span d.args) (flat_map (alternative_name_faults (sense_of ds d.args)) d.alternatives) rule) j in
        let same : option_map (resolved_alternative (sense_of ds d.args)) (Some a) ≡ Some a =
        fixed (option_map (resolved_alternative (sense_of ds d.args))) (all_places d) (Some a) (resolved_rule_places g e d item) (in_map Some a d.alternatives j) in
        let one : resolved_alternative (sense_of ds d.args) a ≡ a = cc same in
        parts_scoped d.args a.parts (tested (sense_of ds d.args) a faults) (ap (λ (x : AlternativeData). x.parts) one)

-- ---- rules as they are read

module _ (g : GrammarData) (h : resolve_faults g ≡ []) (e : resolved_grammar g ≡ g) where
  leveled_alternative : (d : RuleData) → In d (all_rules g) → (a : AlternativeData) → In a d.alternatives → are_scoped (leveled_rules g) d.args a.parts ≡ true
  leveled_alternative d i a j =
      alternative_named (λ d. written_rule_with_levels (globals g) d (all_places d)) (λ d. refl) (λ d. refl) g h e d i a j

  flat_alternative : (d : RuleData) → In d (all_rules g) → (a : AlternativeData) → In a d.alternatives → are_scoped (flat_rules g) d.args a.parts ≡ true
  flat_alternative d i a j =
      alternative_named (λ d. flat_rule (globals g) d (all_places d)) (λ d. refl) (λ d. refl) g h e d i a j

  pub leveled_scoped : NamesAreScoped (leveled_rules g)
  leveled_scoped w a i j =
      let (d, k, is) = leveled_from g w i in
      let places : In (Some a) (with_levels (all_places d)) =
      subst (λ (qs : List (Option AlternativeData)). In (Some a) (with_levels qs)) (resolved_rule_places g e d (rule_item_of g d k))
      (subst (λ (v : WrittenRule). In (Some a) v.places) is j) in
      let (p, y, m, same) = of_numbered (leveled_at (all_places d)) 0 (all_places d) (Some a) places in
      let (b, n, some) = of_map Some y d.alternatives m in
      let here : Some a ≡ leveled_at (all_places d) p (Some b) = same ∙ ap (leveled_at (all_places d) p) some in
      let one : a ≡ record { level = level_at (all_places d) p; side = side_at (all_places d) p; alternative = b } = cc here in
      subst (λ (v : WrittenRule). are_scoped (leveled_rules g) v.args a.alternative.parts ≡ true) (sym is)
      (subst (λ (x : Leveled). are_scoped (leveled_rules g) d.args x.alternative.parts ≡ true) (sym one) (leveled_alternative d k b n))

  pub flat_scoped : IsScoped (flat_rules g)
  flat_scoped = (scoped_as_written None g).2.0 names
    where
      names : NamesAreScoped (flat_rules g)
      names w a i j =
          let (d, k, is) = flat_from g w i in
          let places : In (Some a) (without_levels (all_places d)) =
          subst (λ (qs : List (Option AlternativeData)). In (Some a) (without_levels qs)) (resolved_rule_places g e d (rule_item_of g d k))
          (subst (λ (v : WrittenRule). In (Some a) v.places) is j) in
          let (y, m, same) = of_map (option_map (λ (b : AlternativeData). let x : Leveled = record { level = 0; side = every; alternative = b } in x)) (Some a) (all_places d) places in
          let (b, n, some) = of_map Some y d.alternatives m in
          let here : Some a ≡ Some (record { level = 0; side = every; alternative = b }) =
          same ∙ ap (option_map (λ (b : AlternativeData). let x : Leveled = record { level = 0; side = every; alternative = b } in x)) some in
          let one : a ≡ record { level = 0; side = every; alternative = b } = cc here in
          subst (λ (v : WrittenRule). are_scoped (flat_rules g) v.args a.alternative.parts ≡ true) (sym is)
          (subst (λ (x : Leveled). are_scoped (flat_rules g) d.args x.alternative.parts ≡ true) (sym one) (flat_alternative d k b n))

  pub settled : IsSettled g
  settled = record { resolved = e; once = names_once g h; scoped = flat_scoped }
