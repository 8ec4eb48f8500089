-- What types and inference see of internal tokens: their entries, and not their automaton.
use Rattle.std.proofs.Common.{◌≡◌, ℕ, zero, suc, List, [], ◌∷◌, ◌++◌, length, map, filter, flat_map, Option, Some, None, option_map, option_and_then, unwrap_or, codes, is_none, refl, ap, ap₂, sym, ◌∙◌}
use Rattle.lalrpop_norm_tree_names.specs.declared.names.TerminalString.{TerminalString}
use Rattle.lalrpop_norm_tree_names.specs.declared.names.TerminalString.TheVariants.{Error}
use Rattle.lalrpop_norm_tree_parts.specs.Accessors.{path_of}
use Rattle.lalrpop_norm_tree.specs.Accessors.{or_else, first_of, enum_token_of, extern_token_of, intern_token_of, type_named}
use Rattle.lalrpop_norm_tree.specs.Items.{AlternativeData, RuleData, AssociatedTypeData, EnumTokenData, ExternTokenData, InternTokenData, ItemData, GrammarData, intern_item}
use Rattle.lalrpop_norm_tree.specs.LoweredTypes.{repr_of}
use Rattle.lalrpop_norm_tree_parts.specs.Reprs as lowered
use Rattle.lalrpop_norm_tree_parts.specs.Reprs.{ReprData, unit_type, static_str}
use Rattle.lalrpop_norm_model.specs.PlainRules.{all_rules, rule_of_item}
use Rattle.lalrpop_norm_model.specs.Entries.{user_names}
use Rattle.lalrpop_norm_model.specs.TerminalTypes.{input_str, extern_enum, first_extern, declared_under, named_with, named_terminals, location_with, declared_location, token_with, token_type, error_type, recovery_type, rows_with, terminal_rows, row_of, terminal_type}
use Rattle.lalrpop_norm_model.specs.TypeRelation.{TypeClause, makes, locates, alternative_clause, type_clauses}
use Rattle.lalrpop_norm_model.specs.TypeTables.{Table, grammar_types, type_meant, clause_value}
use Rattle.lalrpop_norm_model.specs.TypeRounds.{TypeRow, table_of, first_value, taken, visit, visits, round, type_rounds}
use Rattle.lalrpop_norm_model.specs.TuplePatterns.{rule_misfits, pattern_misfits}
use Rattle.lalrpop_norm_model.specs.InferenceFaults.{is_undeclared, undeclared, lacking, inferred_table, untyped_rules, is_other, clause_disagrees, disagreeing_in, disagreeing, inference_faults}
use Rattle.lalrpop_norm_model.specs.CheckedTokens.{with_tokens}
use Rattle.lalrpop_norm_model.proofs.TypeEnvironments.{same_environment}

-- two grammars that inference cannot distinguish
pub record LooksSame (g h : GrammarData) : Type 0 where
  pub rules : all_rules g ≡ all_rules h
  pub terminals : (t : TerminalString) → terminal_type g t ≡ terminal_type h t
  pub recovery : recovery_type g ≡ recovery_type h
  pub location : declared_location g ≡ declared_location h
  pub parameters : g.type_parameters ≡ h.type_parameters

module _ (g h : GrammarData) (s : LooksSame g h) where
  -- ---- types

  types_same : (f : Table) → grammar_types g f ≡ grammar_types h f
  types_same f = same_environment (grammar_types g f) (grammar_types h f) s.terminals s.recovery (λ n. refl)

  clause_same : (f : Table) (c : TypeClause) → clause_value g f c ≡ clause_value h f c
  clause_same f (makes t) = ap₂ (λ ps e. type_meant ps e t) s.parameters (types_same f)
  clause_same f locates = s.location

  -- ---- rounds

  first_same : (f : Table) (cs : List TypeClause) → first_value g f cs ≡ first_value h f cs
  first_same f [] = refl
  first_same f (c ∷ cs) = ap (λ v. or_else v (first_value g f cs)) (clause_same f c) ∙ ap (λ v. or_else (clause_value h f c) v) (first_same f cs)

  visit_same : (rows : List TypeRow) (r : RuleData) → visit g rows r ≡ visit h rows r
  visit_same rows r = ap (λ v. taken rows r.name.0 (table_of rows r.name.0) v) (first_same (table_of rows) (type_clauses r))

  visits_same : (rows : List TypeRow) (rs : List RuleData) → visits g rows rs ≡ visits h rows rs
  visits_same rows [] = refl
  visits_same rows (r ∷ rs) = ap (λ x. visits g x rs) (visit_same rows r) ∙ visits_same (visit h rows r) rs

  round_same : (rows : List TypeRow) → round g rows ≡ round h rows
  round_same rows = visits_same rows (all_rules g) ∙ ap (λ rs. visits h rows rs) s.rules

  rounds_same : (k : ℕ) → type_rounds g k ≡ type_rounds h k
  rounds_same zero = refl
  rounds_same (suc k) = ap (λ rows. round g rows) (rounds_same k) ∙ round_same (type_rounds h k)

  pub table_same : inferred_table g ≡ inferred_table h
  table_same = ap table_of (ap (λ (rs : List RuleData). type_rounds g (length rs)) s.rules ∙ rounds_same (length (all_rules h)))

  -- ---- faults

  lacking_same : flat_map lacking (undeclared g) ≡ flat_map lacking (undeclared h)
  lacking_same = ap (λ rs. flat_map lacking (filter is_undeclared rs)) s.rules

  untyped_same : untyped_rules g ≡ untyped_rules h
  untyped_same =
      ap (λ rs. filter (λ (r : RuleData). is_none (inferred_table g r.name.0)) rs) s.rules
      ∙ ap (λ (f : Table). filter (λ (r : RuleData). is_none (f r.name.0)) (all_rules h)) table_same

  disagrees_same : (r : RuleData) (c : Option TypeClause) → clause_disagrees g r c ≡ clause_disagrees h r c
  disagrees_same r None = refl
  disagrees_same r (Some c) =
      ap (λ v. is_other v (inferred_table g r.name.0)) (clause_same (inferred_table g) c)
      ∙ ap (λ (f : Table). is_other (clause_value h f c) (f r.name.0)) table_same

  some_disagree : (r : RuleData) (alternatives : List AlternativeData) →
      filter (λ (a : AlternativeData). clause_disagrees g r (alternative_clause a)) alternatives ≡ filter (λ (a : AlternativeData). clause_disagrees h r (alternative_clause a)) alternatives
  some_disagree r [] = refl
  some_disagree r (a ∷ rest) = rw (disagrees_same r (alternative_clause a), some_disagree r rest) refl

  all_disagree : (rs : List RuleData) → flat_map (disagreeing_in g) rs ≡ flat_map (disagreeing_in h) rs
  all_disagree [] = refl
  all_disagree (r ∷ rs) = rw (some_disagree r r.alternatives, all_disagree rs) refl

  disagreeing_same : disagreeing g ≡ disagreeing h
  disagreeing_same = all_disagree (undeclared g) ∙ ap (λ rs. flat_map (disagreeing_in h) (filter is_undeclared rs)) s.rules

  misfits_same : pattern_misfits g (inferred_table g) ≡ pattern_misfits h (inferred_table h)
  misfits_same = ap (λ rs. flat_map (rule_misfits (inferred_table g)) rs) s.rules ∙ ap (λ f. flat_map (rule_misfits f) (all_rules h)) table_same

  pub faults_same : inference_faults g ≡ inference_faults h
  faults_same = rw (lacking_same, untyped_same, disagreeing_same, misfits_same) refl

-- ---- tokens with the same entries

module _ (t u : InternTokenData) (entries : t.match_entries ≡ u.match_entries) where
  rules_beside : (items : List ItemData) → flat_map rule_of_item (items ++ intern_item t ∷ []) ≡ flat_map rule_of_item (items ++ intern_item u ∷ [])
  rules_beside [] = refl
  rules_beside (x ∷ items) = ap (λ rs. rule_of_item x ++ rs) (rules_beside items)

  first_beside : {B : Type 0} (f : ItemData → Option B) → f (intern_item t) ≡ f (intern_item u) → (items : List ItemData) →
      first_of f (items ++ intern_item t ∷ []) ≡ first_of f (items ++ intern_item u ∷ [])
  first_beside f e [] = ap (λ v. or_else v None) e
  first_beside f e (x ∷ items) = ap (λ v. or_else (f x) v) (first_beside f e items)

  or_both : {B : Type 0} (o p q : Option B) → or_else o (or_else p q) ≡ or_else (or_else o p) q
  or_both None p q = refl
  or_both (Some x) p q = refl

  interns_after : (v : InternTokenData) (items : List ItemData) → first_of intern_token_of (items ++ intern_item v ∷ []) ≡ or_else (first_of intern_token_of items) (Some v)
  interns_after v [] = refl
  interns_after v (x ∷ items) =
      ap (or_else (intern_token_of x)) (interns_after v items) ∙ or_both (intern_token_of x) (first_of intern_token_of items) (Some v)

  module _ (g : GrammarData) where
    enum_beside : extern_enum (with_tokens t g) ≡ extern_enum (with_tokens u g)
    enum_beside = first_beside enum_token_of refl g.items

    extern_beside : first_extern (with_tokens t g) ≡ first_extern (with_tokens u g)
    extern_beside = first_beside extern_token_of refl g.items

    declared_beside : (name : List ℕ) → declared_under name (with_tokens t g) ≡ declared_under name (with_tokens u g)
    declared_beside name =
        ap (λ (x : Option ExternTokenData). option_map (λ (a : AssociatedTypeData). repr_of a.type_ref)
        (option_and_then (λ (e : ExternTokenData). first_of (type_named name) e.associated_types) x)) extern_beside

    location_case : (o : Option EnumTokenData) → location_with o (with_tokens t g) ≡ location_with o (with_tokens u g)
    location_case (Some e) = declared_beside (codes "Location")
    location_case None = refl

    location_beside : declared_location (with_tokens t g) ≡ declared_location (with_tokens u g)
    location_beside = ap (λ o. location_with o (with_tokens t g)) enum_beside ∙ location_case (extern_enum (with_tokens u g))

    token_beside : token_type (with_tokens t g) ≡ token_type (with_tokens u g)
    token_beside = ap (λ o. token_with o) enum_beside

    error_beside : error_type (with_tokens t g) ≡ error_type (with_tokens u g)
    error_beside = ap (λ v. unwrap_or v static_str) (declared_beside (codes "Error"))

    abbrev recovery_of : Option ReprData → ReprData → ReprData → ReprData
    recovery_of location token error =
        lowered.nominal (path_of ((g.prefix ++ codes "lalrpop_util") ∷ codes "ErrorRecovery" ∷ []))
        (lowered.repr_and (unwrap_or location unit_type) (lowered.repr_and token (lowered.repr_and error lowered.no_reprs)))

    recovery_beside : recovery_type (with_tokens t g) ≡ recovery_type (with_tokens u g)
    recovery_beside =
        ap (λ x. recovery_of x (token_type (with_tokens t g)) (error_type (with_tokens t g))) location_beside
        ∙ (ap (λ x. recovery_of (declared_location (with_tokens u g)) x (error_type (with_tokens t g))) token_beside
        ∙ ap (λ x. recovery_of (declared_location (with_tokens u g)) (token_type (with_tokens u g)) x) error_beside)

    named_case : (o : Option InternTokenData) → named_with (or_else o (Some t)) (with_tokens t g) ≡ named_with (or_else o (Some u)) (with_tokens u g)
    named_case None = ap user_names entries
    named_case (Some x) = refl

    named_beside : named_terminals (with_tokens t g) ≡ named_terminals (with_tokens u g)
    named_beside =
        ap (λ o. named_with o (with_tokens t g)) (interns_after t g.items)
        ∙ (named_case (first_of intern_token_of g.items)
        ∙ sym (ap (λ o. named_with o (with_tokens u g)) (interns_after u g.items)))

    rows_case : (o : Option EnumTokenData) → rows_with o (with_tokens t g) ≡ rows_with o (with_tokens u g)
    rows_case (Some e) = refl
    rows_case None = ap (λ (ts : List TerminalString). map (λ (x : TerminalString). (x, input_str)) ts) named_beside

    rows_beside : terminal_rows (with_tokens t g) ≡ terminal_rows (with_tokens u g)
    rows_beside =
        ap (λ x. (Error, x) ∷ rows_with (extern_enum (with_tokens t g)) (with_tokens t g)) recovery_beside
        ∙ (ap (λ o. (Error, recovery_type (with_tokens u g)) ∷ rows_with o (with_tokens t g)) enum_beside
        ∙ ap (λ xs. (Error, recovery_type (with_tokens u g)) ∷ xs) (rows_case (extern_enum (with_tokens u g))))

    terminal_beside : (x : TerminalString) → terminal_type (with_tokens t g) x ≡ terminal_type (with_tokens u g) x
    terminal_beside x =
        ap (λ rows. unwrap_or (row_of x rows) (token_type (with_tokens t g))) rows_beside
        ∙ ap (λ y. unwrap_or (row_of x (terminal_rows (with_tokens u g))) y) token_beside

    pub look_same : LooksSame (with_tokens t g) (with_tokens u g)
    look_same = record {
      rules = rules_beside g.items;
      terminals = terminal_beside;
      recovery = recovery_beside;
      location = location_beside;
      parameters = refl;
    }

    -- the faults of inference are those of the entries, whatever the automaton
    pub automaton_unseen : inference_faults (with_tokens t g) ≡ inference_faults (with_tokens u g)
    automaton_unseen = faults_same (with_tokens t g) (with_tokens u g) look_same
