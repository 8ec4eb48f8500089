-- From what the traced passes promise to what normalization with origins promises.
use Rattle.std.proofs.Common.{◌≡◌, ℕ, Bool, List, [], ◌++◌, length, map, append-nil, Result, Ok, Err, IsErrAnd, sym, ap, subst, ◌∙◌}
use Rattle.std.specs.Prelude.{replicate}
use Rattle.std.proofs.Math.Path.{fun_ext}
use Rattle.lalrpop_norm_tree.specs.Items.{GrammarData}
use Rattle.lalrpop_norm_theory.specs.Symbols.{Name}
use Rattle.lalrpop_norm_theory.specs.LoweredTrees.{Origin, ProductionTable, from_start}
use Rattle.lalrpop_norm_conditions.specs.Conditions.{comparison}
use Rattle.lalrpop_norm_faults.specs.declared.failure.NormFailure.{NormFailure}
use Rattle.lalrpop_norm_faults.specs.declared.failure.NormFailure.TheVariants.{Refused, Memory}
use Rattle.lalrpop_norm_faults.specs.Faults.{Fault, Finding, IsFirst, IsTold, Refuses, RefusesAmong, sure, sure_ones}
use Rattle.lalrpop_norm_faults.proofs.FaultLemmas.{exit_at}
use Rattle.lalrpop_norm_faults.proofs.FindingLemmas.{sure_all, sure_append}
use Rattle.lalrpop_norm_model.specs.Features.{Features}
use Rattle.lalrpop_norm_model.specs.Enabled.{enabled_grammar}
use Rattle.lalrpop_norm_model.specs.LexerFaults.{LexerPlace}
use Rattle.lalrpop_norm_model.specs.PlainRules.{all_rules}
use Rattle.lalrpop_norm_repr.specs.Lowered.{LoweredGrammar}
use Rattle.lalrpop_norm_lower.specs.Lowering.{public_rules_in}
use Rattle.lalrpop_norm_prevalidate.specs.GrammarFaults.{validate_faults}
use Rattle.lalrpop_norm_precedence.specs.PrecedenceFaults.{precedence_faults}
use Rattle.lalrpop_norm_macro_expand.specs.Expansion.{expansion_faults}
use Rattle.lalrpop_norm_origins.specs.EnabledOrigins.{enabled_origins}
use Rattle.lalrpop_norm_origins.specs.LeveledOrigins.{leveled_lists}
use Rattle.lalrpop_norm_origins.specs.MadeOrigins.{expanded_lists, in_one_list}
use Rattle.lalrpop_norm_explain.specs.Derivations.{derivations}
use Rattle.lalrpop_norm_explain.specs.Laws.{CallsFit}
use Rattle.lalrpop_norm.specs.Faithful.{grammar_with_levels, grammar_of_plain_rules, origins_of_actions, written_meaning, written_name, HasFaithfulTrees}
use Rattle.lalrpop_norm.specs.Normalize.{early_faults, plain_findings, normalize_findings}
use Rattle.lalrpop_norm.specs.PlainLaws.{PassesExpansion}
use Rattle.lalrpop_norm.specs.TracedLists.{lists_with_levels, lists_of_plain_rules}
use Rattle.lalrpop_norm.specs.WayBack.{AreRoots, FitsAnywhere}
use Rattle.lalrpop_norm.proofs.ComposedFaithful.{flat, names_free}
use Rattle.lalrpop_norm.proofs.TracedOrigins.{lists_are_action_origins}
use Rattle.lalrpop_norm.proofs.WrittenCalls.{calls_fit, call_fits_anywhere}

-- ---- the passes up to the expansion

-- a fault of the expansion is one of these passes
pub expansion_exit : {T : Type 0} (fs : Features) (limit : ℕ) (g stepped : GrammarData) → validate_faults g ≡ [] →
    (precedence_faults (enabled_grammar fs g) ≡ []) × (stepped ≡ grammar_with_levels fs g) → (r : Result T NormFailure) (e : NormFailure) →
    IsFirst (expansion_faults comparison stepped limit) e → IsErrAnd r (λ x. x ≡ e) → Refuses r (early_faults fs limit g)
expansion_exit fs limit g stepped valid (none, same) r e first is =
    let here = expansion_faults comparison (grammar_with_levels fs g) limit in
    exit_at r e here [] (early_faults fs limit g) is
    (subst (λ (x : GrammarData). IsFirst (expansion_faults comparison x limit) e) same first)
    (ap (λ vs. vs ++ (precedence_faults (enabled_grammar fs g) ++ here)) valid ∙ ap (λ ns. ns ++ here) none ∙ sym (append-nil here))

-- where none of them finds a fault, there is none
pub expansion_none : (fs : Features) (limit : ℕ) (g stepped : GrammarData) → validate_faults g ≡ [] →
    (precedence_faults (enabled_grammar fs g) ≡ []) × (stepped ≡ grammar_with_levels fs g) → expansion_faults comparison stepped limit ≡ [] →
    early_faults fs limit g ≡ []
expansion_none fs limit g stepped valid (none, same) all =
    let here = expansion_faults comparison (grammar_with_levels fs g) limit in
    ap (λ vs. vs ++ (precedence_faults (enabled_grammar fs g) ++ here)) valid ∙ ap (λ ns. ns ++ here) none
    ∙ subst (λ (x : GrammarData). expansion_faults comparison x limit ≡ []) same all

-- the lists that each pass makes of those of the pass before
pub lists_plain : (fs : Features) (g : GrammarData) (limit : ℕ) (enabled stepped : GrammarData) (kept levels lists : List (List Origin)) →
    enabled ≡ enabled_grammar fs g → kept ≡ enabled_origins fs g → levels ≡ leveled_lists enabled.items kept → stepped ≡ grammar_with_levels fs g →
    lists ≡ expanded_lists comparison stepped levels limit → lists ≡ lists_of_plain_rules fs g limit
lists_plain fs g limit enabled stepped kept levels lists same_enabled same_kept is_levels same_stepped is_lists =
    let leveled : levels ≡ lists_with_levels fs g =
    is_levels ∙ ap (λ (x : GrammarData). leveled_lists x.items kept) same_enabled ∙ ap (leveled_lists (enabled_grammar fs g).items) same_kept in
    is_lists ∙ ap (λ (x : GrammarData). expanded_lists comparison x levels limit) same_stepped
    ∙ ap (λ (oss : List (List Origin)). expanded_lists comparison (grammar_with_levels fs g) oss limit) leveled

-- ---- what is reported

-- the exit by `?` of a call that reports some faults one way, where these are all
pub refused_on : {P T : Type 0} (At : P → Fault → Type 0) (r : Result T NormFailure) (e : NormFailure) (here : List (Finding P)) →
    IsErrAnd r (λ x. x ≡ e) → IsTold At here e → RefusesAmong At r here
refused_on At (Ok x) e here from h = absurd from
refused_on At (Err x) (Refused e) here from h = rw from h
refused_on At (Err x) Memory here from h = rw from tt

-- where no sure fault holds before the expanded grammar, and none in it
pub none_told : (fs : Features) (limit : ℕ) (g : GrammarData) → early_faults fs limit g ≡ [] → (plain : GrammarData) → plain ≡ grammar_of_plain_rules fs g limit →
    sure_ones (plain_findings plain) ≡ [] → sure_ones (normalize_findings fs limit g) ≡ []
none_told fs limit g early plain same none =
    sure_append (map sure (early_faults fs limit g)) (plain_findings (grammar_of_plain_rules fs g limit))
    ∙ ap (λ (xs : List Fault). xs ++ sure_ones (plain_findings (grammar_of_plain_rules fs g limit))) (sure_all LexerPlace (early_faults fs limit g) ∙ early)
    ∙ subst (λ (x : GrammarData). sure_ones (plain_findings x) ≡ []) same none

-- ---- the whole

-- the origins of the actions
pub actions_have : (fs : Features) (g : GrammarData) (limit : ℕ) → PassesExpansion fs g limit → (plain : GrammarData) → plain ≡ grammar_of_plain_rules fs g limit →
    (lists : List (List Origin)) → lists ≡ lists_of_plain_rules fs g limit → (os : List Origin) →
    os ≡ replicate (length (public_rules_in (all_rules plain))) from_start ++ in_one_list lists → os ≡ origins_of_actions fs g limit
actions_have fs g limit E plain same_plain lists same_lists os is =
    is
    ∙ ap (λ (x : GrammarData). replicate (length (public_rules_in (all_rules x))) from_start ++ in_one_list lists) same_plain
    ∙ ap (λ (oss : List (List Origin)). replicate (length (public_rules_in (all_rules (grammar_of_plain_rules fs g limit)))) from_start ++ in_one_list oss) same_lists
    ∙ lists_are_action_origins fs g E.resolved (flat fs g E.leveled) (names_free fs g E.leveled)
    (length (public_rules_in (all_rules (grammar_of_plain_rules fs g limit)))) limit

-- the translations fit over the grammar with these origins
pub traced_fit : (fs : Features) (g : GrammarData) (limit : ℕ) (l : LoweredGrammar) → HasFaithfulTrees fs g limit l →
    (os : List Origin) → os ≡ origins_of_actions fs g limit → (is_rule : Name → Bool) → AreRoots fs g is_rule →
    (P : ProductionTable) → ((n : Name) → P n ≡ derivations os l n) → CallsFit (written_meaning fs g) (written_name fs g) P is_rule
traced_fit fs g limit l trees os same is_rule are P reads =
    let all : P ≡ derivations (origins_of_actions fs g limit) l =
    fun_ext reads ∙ ap (λ (xs : List Origin). derivations xs l) same in
    subst (λ (Q : ProductionTable). CallsFit (written_meaning fs g) (written_name fs g) Q is_rule) (sym all) (calls_fit fs g limit l trees is_rule are)

-- and so does the call whose trees begin anywhere
pub traced_anywhere : (fs : Features) (g : GrammarData) (limit : ℕ) (l : LoweredGrammar) → HasFaithfulTrees fs g limit l →
    (os : List Origin) → os ≡ origins_of_actions fs g limit →
    (P : ProductionTable) → ((n : Name) → P n ≡ derivations os l n) → FitsAnywhere fs g limit P
traced_anywhere fs g limit l trees os same P reads =
    let all : P ≡ derivations (origins_of_actions fs g limit) l =
    fun_ext reads ∙ ap (λ (xs : List Origin). derivations xs l) same in
    subst (λ (Q : ProductionTable). FitsAnywhere fs g limit Q) (sym all) (call_fits_anywhere fs g limit l trees)
