-- From what the early passes promise to what the late ones ask, and to the headline.
use Rattle.std.proofs.Common.{◌≡◌, ℕ, List, [], ◌++◌, map, Option, Some, None, IsSome, refl, subst}
use Rattle.lalrpop_norm_tree_names.specs.declared.names.NonterminalString.{NonterminalString}
use Rattle.lalrpop_norm_tree_names.specs.declared.names.Span.{Span}
use Rattle.lalrpop_norm_tree.specs.declared.items.Condition.{Condition}
use Rattle.lalrpop_norm_tree.specs.Items.{AlternativeData, RuleData, GrammarData, rule_item}
use Rattle.lalrpop_norm_tree_parts.specs.Reprs.{ReprData}
use Rattle.lalrpop_norm_theory.specs.Rounds.{In, IsDistinct}
use Rattle.lalrpop_norm_conditions.specs.Conditions.{comparison}
use Rattle.lalrpop_norm_model.specs.Features.{Features}
use Rattle.lalrpop_norm_model.specs.Enabled.{enabled_grammar}
use Rattle.lalrpop_norm_model.specs.Scopes.{Definition, Global, globals, definition_of, global_sense, sense_of, resolved_grammar}
use Rattle.lalrpop_norm_model.specs.PlainRules.{all_rules, rules_without_arguments, IsEnded}
use Rattle.lalrpop_norm_model.specs.PlainTables.{IsSettled}
use Rattle.lalrpop_norm_model.specs.TypeRelation.{IsRule}
use Rattle.lalrpop_norm_model.specs.Expanded.{rule_names, interns, IsExpanded, IsTyped}
use Rattle.lalrpop_norm_model.proofs.EnteredLemmas.{entered_expanded}
use Rattle.lalrpop_norm_model.proofs.EnteredTokens.{entered_typed}
use Rattle.lalrpop_norm_model.specs.InferenceFaults.{inference_faults}
use Rattle.lalrpop_norm_model.specs.Lexers.{Lexer}
use Rattle.lalrpop_norm_model.specs.CheckedTokens.{IsChecked}
use Rattle.lalrpop_norm_model.specs.Renumbered.{prepared_grammar}
use Rattle.lalrpop_norm_model.proofs.GrammarLemmas.{rule_item_of}
use Rattle.lalrpop_norm_model.proofs.ResolvedLemmas.{resolved_once}
use Rattle.lalrpop_norm_model.proofs.InferenceLemmas.{both_empty}
use Rattle.lalrpop_norm_resolve.specs.NameFaults.{repeated_faults, repeated_argument_faults, tested_faults, condition_faults, parts_name_faults, alternative_name_faults, item_name_faults, resolve_faults}
use Rattle.lalrpop_norm_precedence.specs.PrecedenceFaults.{leveled_faults}
use Rattle.lalrpop_norm_prevalidate.specs.GrammarFaults.{validate_faults}
use Rattle.lalrpop_norm_macro_expand.proofs.DistinctLemmas.{names_stay_distinct}
use Rattle.lalrpop_norm_repr.specs.Closed.{IsClosed}
use Rattle.lalrpop_norm_repr.specs.Lowered.{LoweredGrammar}
use Rattle.lalrpop_norm_repr.specs.Tables.{TypeTable}
use Rattle.lalrpop_norm_lower.specs.Lowering.{public_rules_in}
use Rattle.lalrpop_norm_lower.specs.Made.{types_by_name}
use Rattle.lalrpop_norm_lower.specs.Shape.{HasStartTypes, IsLoweringOf}
use Rattle.lalrpop_norm.specs.Faithful.{HasGroundedTypes, IsInferred, IsFaithful, grammar_with_levels, grammar_of_plain_rules}
use Rattle.lalrpop_norm.specs.Laws.{HasFlatMacros, HasOwnNames}
use Rattle.lalrpop_norm.specs.PlainLaws.{PassesExpansion, PassesTokens, PassesLowering}
use Rattle.lalrpop_norm.proofs.ExpandedScopes.{from_all}
use Rattle.lalrpop_norm.proofs.ScopedLemmas.{none_of}
use Rattle.lalrpop_norm.proofs.TreesMacros.{levels_settle_macros}
use Rattle.lalrpop_norm.proofs.ExpandedActive.{plain_active}
use Rattle.lalrpop_norm.proofs.ExpandedTokens.{HasTokens, resolved_tokens, leveled_tokens}
use Rattle.lalrpop_norm.proofs.ExpandedSteps.{AreFitRules, resolved_rules_fit, leveled_rules_fit}
use Rattle.lalrpop_norm.proofs.ExpandedPlain.{IsPrepared, plain_expanded, tokens}
use Rattle.lalrpop_norm.proofs.ExpandedWritten.{IsPlainTerminal, enabled_tokens, enabled_fit}
use Rattle.lalrpop_norm.proofs.TreesFaithful.{entered_same, levels_settled, lowered_trees_faithful}
use Rattle.lalrpop_norm.proofs.ExpandedWhole.{expansion_whole}
use Rattle.lalrpop_norm.proofs.GroundedTypes.{rule_typed, start_is_free, types_are_grounded}

module _ (fs : Features) (g : GrammarData) (valid : validate_faults g ≡ []) where
  fit : AreFitRules IsPlainTerminal (grammar_with_levels fs g)
  fit =
      leveled_rules_fit IsPlainTerminal (resolved_grammar (enabled_grammar fs g))
      (resolved_rules_fit IsPlainTerminal (λ a. refl) (enabled_grammar fs g) (enabled_fit fs g valid))

  leveled_have_tokens : HasTokens (grammar_with_levels fs g)
  leveled_have_tokens = leveled_tokens (resolved_grammar (enabled_grammar fs g)) (resolved_tokens (enabled_grammar fs g) (enabled_tokens fs g valid))

-- macros have one level, and no fault of names holds in the grammar with levels
module _ (fs : Features) (g : GrammarData) (leveled : leveled_faults (prepared_grammar fs g) ≡ []) where
  pub flat : HasFlatMacros (prepared_grammar fs g)
  flat = (levels_settle_macros (prepared_grammar fs g) (resolved_once (enabled_grammar fs g)) leveled).0

  pub names_free : resolve_faults (grammar_with_levels fs g) ≡ []
  names_free = (levels_settle_macros (prepared_grammar fs g) (resolved_once (enabled_grammar fs g)) leveled).1

-- a condition on what is no argument is a fault
tested_free : (s : Span) (o : Option Definition) → tested_faults s (global_sense o) ≡ [] → ⊥
unfolding tested_faults
tested_free s None h = cc h
tested_free s (Some d) h = cc h

condition_free : (ds : List Global) (o : Option Condition) → condition_faults (sense_of ds []) o ≡ [] → o ≡ None
condition_free ds None h = refl
condition_free ds (Some c) h = absurd (tested_free c.span (definition_of ds c.lhs.0) h)

-- where no fault of names holds, only macros have conditions
unconditional : (g : GrammarData) → resolve_faults g ≡ [] → (d : RuleData) → In d (rules_without_arguments g) → (a : AlternativeData) → In a d.alternatives →
    a.condition ≡ None
unfolding alternative_name_faults
unconditional g free d i a j =
    let (listed, none) = from_all g d i in
    let rule = none_of (item_name_faults (globals g)) g.items (rule_item d) (both_empty (repeated_faults [] (globals g)) _ free).1 (rule_item_of g d listed) in
    let alternative = none_of (alternative_name_faults (sense_of (globals g) d.args)) d.alternatives a (both_empty (repeated_argument_faults d.span d.args) _ rule).1 j in
    condition_free (globals g) a.condition
    (subst (λ (args : List NonterminalString). condition_faults (sense_of (globals g) args) a.condition ≡ []) none
    (both_empty (condition_faults (sense_of (globals g) d.args) a.condition) (parts_name_faults (sense_of (globals g) d.args) a.parts) alternative).0)

-- What the passes up to that on levels find out of a written grammar.
pub record PassesLevels (fs : Features) (g : GrammarData) : Type 0 where
  pub valid : validate_faults g ≡ []
  pub resolved : resolve_faults (enabled_grammar fs g) ≡ []
  pub leveled : leveled_faults (prepared_grammar fs g) ≡ []

module _ (fs : Features) (g : GrammarData) (B : PassesLevels fs g) where
  pub settled : IsSettled (grammar_with_levels fs g)
  settled = levels_settled fs g B.resolved (flat fs g B.leveled) (names_free fs g B.leveled)

  -- what the expansion needs
  pub prepared : IsPrepared IsPlainTerminal (grammar_with_levels fs g)
  prepared = record {
    settled = settled;
    no_conditions = unconditional (grammar_with_levels fs g) (names_free fs g B.leveled);
    over = λ r i. (fit fs g B.valid r i).over;
    bare_types = λ r i. (fit fs g B.valid r i).bare_type;
    tokens = leveled_have_tokens fs g B.valid;
  }

module _ (fs : Features) (g : GrammarData) (limit : ℕ) (E : PassesExpansion fs g limit) where
  abbrev p : GrammarData
  p = grammar_of_plain_rules fs g limit

  abbrev pub before_expansion : PassesLevels fs g
  before_expansion = record { valid = E.valid; resolved = E.resolved; leveled = E.leveled }

  ready : IsPrepared IsPlainTerminal (grammar_with_levels fs g)
  ready = prepared fs g before_expansion

  whole : IsEnded comparison (grammar_with_levels fs g) limit
  whole = expansion_whole comparison (grammar_with_levels fs g) limit E.expanded

  pub distinct_plain : IsDistinct (rule_names (grammar_of_plain_rules fs g limit))
  distinct_plain = names_stay_distinct comparison (grammar_with_levels fs g) limit E.expanded (settled fs g before_expansion).once

  -- The expanded grammar satisfies `IsExpanded`, and has no internal tokens.
  pub plain_is_expanded : IsExpanded (grammar_of_plain_rules fs g limit) × (interns (grammar_of_plain_rules fs g limit) ≡ [])
  plain_is_expanded = (
    plain_expanded IsPlainTerminal (λ t h. h) comparison (grammar_with_levels fs g) ready limit whole distinct_plain,
    (tokens IsPlainTerminal (λ t h. h) comparison (grammar_with_levels fs g) ready limit whole).no_intern,
  )

module _ (fs : Features) (g : GrammarData) (limit : ℕ) (h : GrammarData) (T : PassesTokens fs g limit h) where
  -- With its entries it is expanded too.
  pub entered_is_expanded : IsExpanded h
  entered_is_expanded =
      let (expanded, none) = plain_is_expanded fs g limit T.before in
      entered_expanded (grammar_of_plain_rules fs g limit) h expanded none T.entries

  -- It is typed by a table in which each of its rules has a type.
  pub plain_is_typed : (table : List ℕ → Option ReprData) → ((r : RuleData) → IsRule h r → IsSome (table r.name.0)) → IsTyped fs h table
  plain_is_typed table some =
      let (expanded, none) = plain_is_expanded fs g limit T.before in
      entered_typed fs (grammar_of_plain_rules fs g limit) h expanded none (plain_active fs g limit) T.supplied T.entries table some

  -- each rule has a type in the table of inference
  pub inferred_total : (table : TypeTable) → inference_faults h ≡ [] → IsInferred h table → (r : RuleData) → IsRule h r → IsSome (types_by_name table r.name.0)
  inferred_total table typable inferred = rule_typed h table inferred entered_is_expanded.distinct_names typable

module _ (fs : Features) (g : GrammarData) (limit : ℕ) (h : GrammarData) (table : TypeTable) (W : PassesLowering fs g limit h table) where
  abbrev low : GrammarData
  low = grammar_of_plain_rules fs g limit

  once : IsDistinct (rule_names h)
  once = (entered_is_expanded fs g limit h W.before).distinct_names

  -- the start names are no rules' names
  pub starts_free : (r : RuleData) → In r (public_rules_in (all_rules h)) → In (h.prefix ++ r.name.0) (rule_names h) → ⊥
  starts_free = start_is_free h table W.inferred once W.typable W.lowerable

  -- each nonterminal has its only derivable type
  pub grounded : (types : TypeTable) → HasStartTypes h.prefix (all_rules h) table types → HasGroundedTypes h types
  grounded = types_are_grounded h table W.inferred once W.typable W.lowerable

  -- the expanded grammar has the names of its own that it has with its entries
  own_names : HasOwnNames (grammar_of_plain_rules fs g limit)
  own_names =
      let (rules, prefix) = entered_same (grammar_of_plain_rules fs g limit) h W.before.entries in record {
        once = distinct_plain fs g limit W.before.before;
        starts =
            subst (λ (rs : List RuleData). (r : RuleData) → In r (public_rules_in rs) → In (low.prefix ++ r.name.0) (map (λ (s : RuleData). s.name.0) rs) → ⊥) rules
            (subst (λ (before : List ℕ). (r : RuleData) → In r (public_rules_in (all_rules h)) → In (before ++ r.name.0) (rule_names h) → ⊥) prefix starts_free);
      }

  -- What is lowered from the expanded grammar with its tokens is faithful.
  pub lowered_faithful : {R : Type 0} (lexer : Lexer R) → IsChecked lexer (grammar_of_plain_rules fs g limit) h → (l : LoweredGrammar) →
      IsLoweringOf h (all_rules h) table l → IsClosed l → IsFaithful lexer fs limit g l
  lowered_faithful lexer tokens l shape closed =
      let E : PassesExpansion fs g limit = W.before.before in record {
        trees =
            lowered_trees_faithful fs g E.resolved (flat fs g E.leveled) (names_free fs g E.leveled) limit (whole fs g limit E)
            own_names h W.before.entries table l shape;
        checked = h;
        tokens = tokens;
        table = table;
        inferred = W.inferred;
        types = grounded l.types shape.types;
        shape = shape;
        closed = closed;
      }
