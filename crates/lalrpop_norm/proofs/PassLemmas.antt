-- From what the passes promise to what normalization promises.
use Rattle.std.proofs.Common.{◌≡◌, ◌↔◌, ℕ, List, [], ◌∷◌, ◌++◌, map, Option, Some, None, Result, Ok, Err, IsErrAnd, inl, inr, refl, ap, sym, subst, ◌∙◌}
use Rattle.std.proofs.Math.Path.{fun_ext}
use Rattle.std.specs.Prelude.{IfOk}
use Rattle.lalrpop_norm_tree.specs.Items.{EnumTokenData, ExternTokenData, ItemData, GrammarData, extern_item, intern_item}
use Rattle.lalrpop_norm_theory.specs.Rounds.{In, IsDistinct}
use Rattle.lalrpop_norm_theory.proofs.RoundsLemmas.{in_cases}
use Rattle.lalrpop_norm_conditions.specs.Conditions.{comparison}
use Rattle.lalrpop_norm_faults.specs.declared.failure.NormFailure.{NormFailure}
use Rattle.lalrpop_norm_faults.specs.declared.failure.NormFailure.TheVariants.{Refused, Memory}
use Rattle.lalrpop_norm_faults.specs.Faults.{Fault, IsFirst, Refuses, Finding, sure, sure_ones, IsTold, RefusesAmong}
use Rattle.lalrpop_norm_faults.proofs.FaultLemmas.{exit_at}
use Rattle.lalrpop_norm_faults.proofs.FindingLemmas.{sure_all, sure_append, first_told, told_left, told_right, refuses_among}
use Rattle.lalrpop_norm_repr.specs.Closed.{IsClosed}
use Rattle.lalrpop_norm_repr.specs.Lowered.{LoweredGrammar}
use Rattle.lalrpop_norm_repr.specs.Tables.{TypeTable}
use Rattle.lalrpop_norm_model.specs.CheckedTokens.{IsEnteredWith, IsEntered, IsChecked}
use Rattle.lalrpop_norm_model.specs.Enabled.{enabled_extern, enabled_grammar}
use Rattle.lalrpop_norm_model.specs.EnteredGrammars.{entered_grammar}
use Rattle.lalrpop_norm_model.specs.Expanded.{rule_names, IsExpanded}
use Rattle.lalrpop_norm_model.specs.Features.{Features}
use Rattle.lalrpop_norm_model.specs.InferenceFaults.{inference_faults, inferred_table}
use Rattle.lalrpop_norm_model.specs.LevelRules.{leveled_grammar}
use Rattle.lalrpop_norm_model.specs.LexerFaults.{StandsAtLexer, token_findings}
use Rattle.lalrpop_norm_model.specs.Lexers.{Lexer}
use Rattle.lalrpop_norm_model.specs.LoweringFaults.{lowering_faults}
use Rattle.lalrpop_norm_model.specs.PlainRules.{all_rules, plain_grammar}
use Rattle.lalrpop_norm_model.specs.Scopes.{resolved_grammar}
use Rattle.lalrpop_norm_model.specs.TerminalTypes.{extern_enum}
use Rattle.lalrpop_norm_model.specs.TokenFaults.{token_faults}
use Rattle.lalrpop_norm_model.proofs.EnteredLemmas.{entered_expanded}
use Rattle.lalrpop_norm_model.proofs.EnteredTokens.{entered_typed}
use Rattle.lalrpop_norm_model.proofs.EnteredTypes.{entries_decide}
use Rattle.lalrpop_norm_model.proofs.InferenceLemmas.{both_empty, inferred_types}
use Rattle.lalrpop_norm_model.proofs.TokenFindingLemmas.{sure_findings, checked_is_entered}
use Rattle.lalrpop_norm_model.proofs.TypableLemmas.{typable_exactly}
use Rattle.lalrpop_norm_resolve.specs.NameFaults.{resolve_faults}
use Rattle.lalrpop_norm_precedence_steps.specs.LevelFaults.{grammar_level_faults}
use Rattle.lalrpop_norm_prevalidate.specs.GrammarFaults.{validate_faults}
use Rattle.lalrpop_norm_precedence.specs.PrecedenceFaults.{precedence_faults}
use Rattle.lalrpop_norm_macro_expand.specs.Expansion.{expansion_faults}
use Rattle.lalrpop_norm_tyinfer.specs.Inferred.{IsInferred}
use Rattle.lalrpop_norm_lower.specs.Active.{active_item, active_grammar}
use Rattle.lalrpop_norm_lower.specs.Made.{types_by_name}
use Rattle.lalrpop_norm_lower.specs.Shape.{IsLoweringOf}
use Rattle.lalrpop_norm.specs.Faithful.{grammar_with_levels, grammar_of_plain_rules, IsFaithful}
use Rattle.lalrpop_norm.specs.Normalize.{early_faults, late_faults, plain_findings}
use Rattle.lalrpop_norm.specs.Passed.{IsTypedByInference, IsTypedLowering, IsPlain, IsCheckedLowering}
use Rattle.lalrpop_norm.specs.PlainLaws.{PassesExpansion, PassesLowering}
use Rattle.lalrpop_norm.proofs.ComposedFaithful.{plain_is_expanded, lowered_faithful}
use Rattle.lalrpop_norm.proofs.ExpandedActive.{plain_active, items_kept}
use Rattle.lalrpop_norm.proofs.GroundedTypes.{rule_typed}

-- ---- types

same_option : {A : Type 0} (a b : Option A) → ((x : A) → (a ≡ Some x) ↔ (b ≡ Some x)) → a ≡ b
same_option None None h = refl
same_option None (Some y) h = (h y).1 refl
same_option (Some x) b h = sym ((h x).0 refl)

-- the table that inference answers is the one where its rounds end
types_are_inferred : (p : GrammarData) (types : TypeTable) → IsDistinct (rule_names p) → inference_faults p ≡ [] → IsInferred p types →
    types_by_name types ≡ inferred_table p
types_are_inferred p types distinct none inferred =
    let typable = (typable_exactly p distinct).1 none in
    let table = inferred_types p typable.one_type in
    fun_ext (λ n. same_option (types_by_name types n) (inferred_table p n) (λ x. (
      (λ e. (table n x).1 ((inferred.names (record { 0 = n }) x).0 e)),
      (λ e. (inferred.names (record { 0 = n }) x).1 ((table n x).0 e)),
    )))

-- where inference has no fault, those of lowering are all
pub late_same : (p : GrammarData) (types : TypeTable) → IsDistinct (rule_names p) → inference_faults p ≡ [] → IsInferred p types →
    lowering_faults p (types_by_name types) ≡ late_faults p
late_same p types distinct none inferred =
    ap (lowering_faults p) (types_are_inferred p types distinct none inferred)
    ∙ sym (ap (λ fs. fs ++ lowering_faults p (inferred_table p)) none)

-- ---- what is reported

-- the exit by `?` of a call that rejects by the first of a list, which comes first
pub sure_exit : {P T : Type 0} (At : P → Fault → Type 0) (r : Result T NormFailure) (e : NormFailure) (here : List Fault) (rest : List (Finding P)) →
    IsErrAnd r (λ x. x ≡ e) → IsFirst here e → RefusesAmong At r (map sure here ++ rest)
sure_exit At (Ok x) e here rest from h = absurd from
sure_exit At (Err x) (Refused e) here rest from h =
    rw from (told_left At (map sure here) rest (e.fault, e.span) (first_told At here (e.fault, e.span) h))
sure_exit At (Err x) Memory here rest from h = rw from tt

-- of a call that reports some faults one way
pub told_exit : {P T : Type 0} (At : P → Fault → Type 0) (r : Result T NormFailure) (e : NormFailure) (here rest : List (Finding P)) →
    IsErrAnd r (λ x. x ≡ e) → IsTold At here e → RefusesAmong At r (here ++ rest)
told_exit At (Ok x) e here rest from h = absurd from
told_exit At (Err x) (Refused e) here rest from h = rw from (told_left At here rest (e.fault, e.span) h)
told_exit At (Err x) Memory here rest from h = rw from tt

-- what is reported where no sure fault holds before it
pub told_after : {P T : Type 0} (At : P → Fault → Type 0) (r : Result T NormFailure) (here rest : List (Finding P)) → sure_ones here ≡ [] →
    RefusesAmong At r rest → RefusesAmong At r (here ++ rest)
told_after At (Ok x) here rest none h = sure_append here rest ∙ ap (λ fs. fs ++ sure_ones rest) none ∙ h
told_after At (Err (Refused e)) here rest none h = told_right At here rest (e.fault, e.span) none h
told_after At (Err Memory) here rest none h = tt

pub told_behind : {P T : Type 0} (At : P → Fault → Type 0) (r : Result T NormFailure) (here : List Fault) (rest : List (Finding P)) → here ≡ [] →
    RefusesAmong At r rest → RefusesAmong At r (map sure here ++ rest)
told_behind {P} At r here rest none h = told_after At r (map sure here) rest (sure_all P here ∙ none) h

-- what is known where no fault of the list holds is known where the call answers
pub where_none : {T : Type 0} (Q : Type 0) (r : Result T NormFailure) (fs : List Fault) → Refuses r fs → (fs ≡ [] → Q) → IfOk r (λ x. Q)
where_none Q (Ok x) fs h f = f h
where_none Q (Err e) fs h f = tt

-- ---- the passes up to the expansion

-- a fault of names or levels is one of these passes
pub names_exit : {T : Type 0} (fs : Features) (limit : ℕ) (g h : GrammarData) → validate_faults g ≡ [] → h ≡ enabled_grammar fs g → (r : Result T NormFailure) (e : NormFailure) →
    IsFirst (precedence_faults h) e → IsErrAnd r (λ x. x ≡ e) → Refuses r (early_faults fs limit g)
names_exit fs limit g h valid same r e first is =
    let rest = expansion_faults comparison (grammar_with_levels fs g) limit in
    exit_at r e (precedence_faults (enabled_grammar fs g)) rest (early_faults fs limit g) is
    (subst (λ (x : GrammarData). IsFirst (precedence_faults x) e) same first)
    (ap (λ vs. vs ++ (precedence_faults (enabled_grammar fs g) ++ rest)) valid)

-- the pass on levels answers the grammar with levels
pub levels_answer : (fs : Features) (g enabled stepped : GrammarData) → enabled ≡ enabled_grammar fs g →
    (precedence_faults enabled ≡ []) × (stepped ≡ leveled_grammar (resolved_grammar enabled)) →
    (precedence_faults (enabled_grammar fs g) ≡ []) × (stepped ≡ grammar_with_levels fs g)
levels_answer fs g enabled stepped same (none, is) = (
  subst (λ (x : GrammarData). precedence_faults x ≡ []) same none,
  is ∙ ap (λ (x : GrammarData). leveled_grammar (resolved_grammar x)) same,
)

-- the expansion rejects and answers
pub expansion_refuses : {T : Type 0} (fs : Features) (limit : ℕ) (g stepped : GrammarData) (r : Result T NormFailure) → validate_faults g ≡ [] →
    (precedence_faults (enabled_grammar fs g) ≡ []) × (stepped ≡ grammar_with_levels fs g) → Refuses r (expansion_faults comparison stepped limit) →
    Refuses r (early_faults fs limit g)
expansion_refuses fs limit g stepped r valid (none, same) h =
    let here = expansion_faults comparison (grammar_with_levels fs g) limit in
    subst (Refuses r) (sym (ap (λ vs. vs ++ (precedence_faults (enabled_grammar fs g) ++ here)) valid ∙ ap (λ ns. ns ++ here) none))
    (subst (λ (x : GrammarData). Refuses r (expansion_faults comparison x limit)) same h)

pub expansion_passes : (fs : Features) (limit : ℕ) (g stepped : GrammarData) → validate_faults g ≡ [] →
    (precedence_faults (enabled_grammar fs g) ≡ []) × (stepped ≡ grammar_with_levels fs g) → expansion_faults comparison stepped limit ≡ [] → PassesExpansion fs g limit
expansion_passes fs limit g stepped valid (names, same) all = record {
  valid = valid;
  resolved = (both_empty (resolve_faults (enabled_grammar fs g)) _ names).0;
  leveled =
      (both_empty (grammar_level_faults (resolved_grammar (enabled_grammar fs g))) _ (both_empty (resolve_faults (enabled_grammar fs g)) _ names).1).1;
  expanded = subst (λ (x : GrammarData). expansion_faults comparison x limit ≡ []) same all;
}

pub expansion_plain : (fs : Features) (limit : ℕ) (g stepped plain : GrammarData) → stepped ≡ grammar_with_levels fs g → plain ≡ plain_grammar comparison stepped limit →
    plain ≡ grammar_of_plain_rules fs g limit
expansion_plain fs limit g stepped plain same is = is ∙ ap (λ (x : GrammarData). plain_grammar comparison x limit) same

-- ---- rules of the expanded grammar

-- what the passes up to the expansion answer is as the pass on tokens asks
pub plain_is_plain : (fs : Features) (limit : ℕ) (g : GrammarData) → PassesExpansion fs g limit → IsPlain fs (grammar_of_plain_rules fs g limit)
plain_is_plain fs limit g E =
    let (expanded, none) = plain_is_expanded fs g limit E in
    record { expanded = expanded; no_tokens = none; active = plain_active fs g limit }

-- what is reported of one grammar is reported of an equal one
pub refused_alike : {R : Type 0} (lexer : Lexer R) (p q : GrammarData) → p ≡ q → {T : Type 0} (r : Result T NormFailure) →
    RefusesAmong (StandsAtLexer lexer p) r (plain_findings p) → RefusesAmong (StandsAtLexer lexer q) r (plain_findings q)
refused_alike lexer p q same r h = subst (λ (x : GrammarData). RefusesAmong (StandsAtLexer lexer x) r (plain_findings x)) same h

-- ---- their tokens, types and lowering

module _ {R : Type 0} (lexer : Lexer R) (fs : Features) (p : GrammarData) (plain : IsPlain fs p) (h : GrammarData)
    (none : sure_ones (token_findings p) ≡ []) (tokens : IsChecked lexer p h) where
  pub supplied : token_faults p ≡ []
  supplied = sym (sure_findings p) ∙ none

  entered : IsEntered p h
  entered = checked_is_entered lexer p h tokens

  pub is_expanded : IsExpanded h
  is_expanded = entered_expanded p h plain.expanded plain.no_tokens entered

  pub is_typed : IsTypedByInference fs h
  is_typed types typable inferred =
      entered_typed fs p h plain.expanded plain.no_tokens plain.active supplied entered (types_by_name types)
      (rule_typed h types inferred is_expanded.distinct_names typable)

  -- what is rejected after the pass on tokens
  pub late_exit : {T : Type 0} (r : Result T NormFailure) → Refuses r (late_faults h) → RefusesAmong (StandsAtLexer lexer p) r (plain_findings p)
  late_exit r refuses =
      let (faults, table, lowering) = entries_decide p h entered in
      let same : late_faults h ≡ late_faults (entered_grammar p) =
      ap (λ fs. fs ++ lowering_faults h (inferred_table h)) faults
      ∙ ap (λ fs. inference_faults (entered_grammar p) ++ fs) (ap (lowering_faults h) table ∙ lowering (inferred_table (entered_grammar p))) in
      told_after (StandsAtLexer lexer p) r (token_findings p) (map sure (late_faults (entered_grammar p))) none
      (refuses_among (StandsAtLexer lexer p) r (late_faults (entered_grammar p)) (subst (Refuses r) same refuses))

  pub lowered_so : (l : LoweredGrammar) → IsTypedLowering fs h l → IsCheckedLowering lexer fs p l
  lowered_so l low = record { checked = h; supplied = supplied; tokens = tokens; lowered = low }

-- ---- the whole

-- a grammar with its entries has the extern blocks that it had
entered_active : (fs : Features) (p h : GrammarData) → IsPlain fs p → IsEntered p h → (t : ExternTokenData) → In (extern_item t) h.items → enabled_extern fs t ≡ t
entered_active fs p h plain entered = by (extern_enum p) entered
  where
    by : (o : Option EnumTokenData) → IsEnteredWith o p h → (t : ExternTokenData) → In (extern_item t) h.items → enabled_extern fs t ≡ t
    by (Some e) same t i = plain.active t (subst (λ (x : GrammarData). In (extern_item t) x.items) same i)
    by None (u, entries) t i =
        elim (in_cases (extern_item t) p.items (intern_item u ∷ []) (subst (λ (x : GrammarData). In (extern_item t) x.items) entries.grammar i)) [
          | inl j ↦ plain.active t j
          | inr j ↦ elim j [ inl e ↦ absurd (cc e) | inr k ↦ absurd k ]
        ]

all_active : (fs : Features) (p h : GrammarData) → IsPlain fs p → IsEntered p h → active_grammar fs h ≡ h
all_active fs p h plain entered =
    ap (λ (is : List ItemData). record h { items = is })
    (items_kept (active_item fs) (λ m. refl) (λ t. refl) (λ r. refl) (λ u. refl) h.items (λ t i. ap extern_item (entered_active fs p h plain entered t i)))

-- no pass finds anything wrong with a written grammar, and it is lowered by its expanded grammar with its tokens
pub record IsPassed {R : Type 0} (lexer : Lexer R) (fs : Features) (limit : ℕ) (g : GrammarData) (l : LoweredGrammar) : Type 0 where
  pub checked : GrammarData
  pub tokens : IsChecked lexer (grammar_of_plain_rules fs g limit) checked
  pub types : TypeTable
  pub passes : PassesLowering fs g limit checked types
  pub shape : IsLoweringOf checked (all_rules checked) types l
  pub closed : IsClosed l

-- what is lowered from the rules of the expanded grammar has passed
pub passed : {R : Type 0} (lexer : Lexer R) (fs : Features) (limit : ℕ) (g p : GrammarData) → PassesExpansion fs g limit → p ≡ grammar_of_plain_rules fs g limit →
    (l : LoweredGrammar) → IsCheckedLowering lexer fs p l → IsPassed lexer fs limit g l
passed lexer fs limit g p E same l low = by (subst (λ (x : GrammarData). IsCheckedLowering lexer fs x l) same low)
  where
    by : IsCheckedLowering lexer fs (grammar_of_plain_rules fs g limit) l → IsPassed lexer fs limit g l
    by c =
        let q : GrammarData = grammar_of_plain_rules fs g limit in
        let entered = checked_is_entered lexer q c.checked c.tokens in record {
          checked = c.checked;
          tokens = c.tokens;
          types = c.lowered.types;
          passes = record {
            before = record { before = E; supplied = c.supplied; entries = entered };
            typable = c.lowered.typable;
            inferred = c.lowered.inferred;
            lowerable = c.lowered.lowerable;
          };
          shape =
              subst (λ (x : GrammarData). IsLoweringOf x (all_rules c.checked) c.lowered.types l)
              (all_active fs q c.checked (plain_is_plain fs limit g E) entered) c.lowered.shape;
          closed = c.lowered.closed;
        }

pub passed_faithful : {R : Type 0} (lexer : Lexer R) (fs : Features) (limit : ℕ) (g : GrammarData) (l : LoweredGrammar) → IsPassed lexer fs limit g l → IsFaithful lexer fs limit g l
passed_faithful lexer fs limit g l h = lowered_faithful fs g limit h.checked h.types h.passes lexer h.tokens l h.shape h.closed
