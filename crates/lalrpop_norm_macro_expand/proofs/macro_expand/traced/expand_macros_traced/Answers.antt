use Rattle.std.proofs.Common.{◌≡◌, ◌++◌, List, refl, sym, ap, subst}
use Rattle.std.proofs.lemmas.Result.{IfOk-weaker}
use Rattle.lalrpop_norm_tree.specs.Items.{GrammarData, grammar_view}
use Rattle.lalrpop_norm_conditions.specs.Conditions.{comparison}
use Rattle.lalrpop_norm_faults.specs.Faults.{Fault, Refuses}
use Rattle.lalrpop_norm_faults.proofs.FaultLemmas.{exit_at}
use Rattle.lalrpop_norm_model.specs.PlainRules.{IsEnded, plain_grammar}
use Rattle.lalrpop_norm_model.specs.Scopes.{globals, resolved_grammar}
use Rattle.lalrpop_norm_resolve.specs.NameFaults.{resolve_faults}
use Rattle.lalrpop_norm_origins.specs.Origins.{origin_lists}
use Rattle.lalrpop_norm_origins.specs.Shapes.{IsShaped}
use Rattle.lalrpop_norm_origins.specs.MadeOrigins.{expanded_lists}
use Rattle.lalrpop_norm_origins.proofs.ShapeLemmas.{shaped_resolved}
use Rattle.lalrpop_norm_macro_expand.specs.Expansion.{expansion_faults, macro_faults}
use Rattle.lalrpop_norm_macro_expand.proofs.macro_expand.traced.expand_macros_traced.Goals as goal

pub returns-in_err-resolved-clause-refuses : goal.returns-in_err-resolved-clause-refuses
returns-in_err-resolved-clause-refuses c =
    let g = grammar_view c.args.grammar in
    exit_at _ _ (resolve_faults g) (expansion_faults comparison (resolved_grammar g) c.args.limit) (macro_faults comparison g c.args.limit)
    c.from_residual.ensures.1 c.in_err-resolved.ensures.resolves refl

pub expand_resolved_traced-requires : goal.expand_resolved_traced-requires
expand_resolved_traced-requires c =
    let g = grammar_view c.args.grammar in
    subst (λ (h : GrammarData). IsShaped h.items (origin_lists c.args.origins.items)) (sym c.in_ok-resolved.ensures.resolves.1)
    (shaped_resolved (globals g) g.items (origin_lists c.args.origins.items) c.requires)

pub returns-clause-refuses : goal.returns-clause-refuses
returns-clause-refuses c =
    let g = grammar_view c.args.grammar in
    let resolved = c.in_ok-resolved.ensures.resolves in
    subst (Refuses c.expand_resolved_traced.result)
    (sym (ap (λ (fs : List Fault). fs ++ expansion_faults comparison (resolved_grammar g) c.args.limit) resolved.0))
    (subst (λ (h : GrammarData). Refuses c.expand_resolved_traced.result (expansion_faults comparison h c.args.limit)) resolved.1 c.expand_resolved_traced.ensures.refuses)

pub returns-clause-whole : goal.returns-clause-whole
returns-clause-whole c =
    IfOk-weaker c.expand_resolved_traced.result _ _
    (λ made. subst (λ (h : GrammarData). IsEnded comparison h c.args.limit) c.in_ok-resolved.ensures.resolves.1) c.expand_resolved_traced.ensures.whole

pub returns-clause-plain : goal.returns-clause-plain
returns-clause-plain c =
    IfOk-weaker c.expand_resolved_traced.result _ _
    (λ made. subst (λ (h : GrammarData). grammar_view made.0 ≡ plain_grammar comparison h c.args.limit) c.in_ok-resolved.ensures.resolves.1) c.expand_resolved_traced.ensures.plain

pub returns-clause-origins : goal.returns-clause-origins
returns-clause-origins c =
    IfOk-weaker c.expand_resolved_traced.result _ _
    (λ made. subst (λ (h : GrammarData). origin_lists made.1.items ≡ expanded_lists comparison h (origin_lists c.args.origins.items) c.args.limit) c.in_ok-resolved.ensures.resolves.1)
    c.expand_resolved_traced.ensures.origins
