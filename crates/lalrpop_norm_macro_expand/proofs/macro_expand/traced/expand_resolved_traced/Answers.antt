use Rattle.std.proofs.Common.{◌≡◌, ◌++◌, List, sym, ap, ap₂, ◌∙◌, subst}
use Rattle.std.specs.List.{flat_map}
use Rattle.lalrpop_norm_theory.specs.LoweredTrees as theory
use Rattle.lalrpop_norm_tree.specs.Items.{GrammarData, grammar_view}
use Rattle.lalrpop_norm_conditions.specs.Conditions.{comparison}
use Rattle.lalrpop_norm_nodes.specs.Tables.{wholes_in}
use Rattle.lalrpop_norm_nodes.proofs.MeetingLemmas.{err_refuses}
use Rattle.lalrpop_norm_origins.specs.Origins.{origin_lists}
use Rattle.lalrpop_norm_origins.specs.Shapes.{IsShaped}
use Rattle.lalrpop_norm_origins.specs.MadeOrigins.{traced_rules, plain_list, expanded_lists}
use Rattle.lalrpop_norm_origins.proofs.ShapeLemmas.{shaped_expanded}
use Rattle.lalrpop_norm_macro_expand.specs.TracedRules.{first_list_of, made_list}
use Rattle.lalrpop_norm_macro_expand.proofs.TracedLemmas.{made_lists}
use Rattle.lalrpop_norm_macro_expand.proofs.macro_expand.traced.expand_resolved_traced.Goals as goal

pub returns-in_err-expanded-clause-refuses : goal.returns-in_err-expanded-clause-refuses
returns-in_err-expanded-clause-refuses c = err_refuses _ _ _ c.from_residual-in_err-expanded.ensures.1 c.in_err-expanded.ensures.refuses

pub returns-clause-origins : goal.returns-clause-origins
returns-clause-origins c =
    let g = grammar_view c.args.grammar in
    let oss = origin_lists c.args.origins.items in
    let x = c.in_ok-expanded.expanded in
    c.in_ok-plain.ensures
    ∙ ap₂ (λ (pss : List (List theory.Origin)) ls. pss ++ flat_map (made_list (first_list_of ls) (wholes_in x.table)) x.made.items)
    c.in_ok-lists.ensures.plain c.in_ok-lists.ensures.macros
    ∙ ap (λ (pss : List (List theory.Origin)). flat_map plain_list (traced_rules g.items oss) ++ pss)
    (made_lists g oss c.requires (wholes_in x.table) c.args.limit x.made.items c.in_ok-expanded.ensures.made)

pub returns-clause-shaped : goal.returns-clause-shaped
returns-clause-shaped c =
    let g = grammar_view c.args.grammar in
    let oss = origin_lists c.args.origins.items in
    let x = c.in_ok-expanded.expanded in
    let lists : origin_lists c.in_ok-plain.plain.items ≡ expanded_lists comparison g oss c.args.limit =
    c.in_ok-plain.ensures
    ∙ ap₂ (λ (pss : List (List theory.Origin)) ls. pss ++ flat_map (made_list (first_list_of ls) (wholes_in x.table)) x.made.items)
    c.in_ok-lists.ensures.plain c.in_ok-lists.ensures.macros
    ∙ ap (λ (pss : List (List theory.Origin)). flat_map plain_list (traced_rules g.items oss) ++ pss)
    (made_lists g oss c.requires (wholes_in x.table) c.args.limit x.made.items c.in_ok-expanded.ensures.made) in
    subst (λ (pss : List (List theory.Origin)). IsShaped (grammar_view x.grammar).items pss) (sym lists)
    (subst (λ (h : GrammarData). IsShaped h.items (expanded_lists comparison g oss c.args.limit)) (sym c.in_ok-expanded.ensures.plain)
    (shaped_expanded comparison g oss c.args.limit c.requires))
