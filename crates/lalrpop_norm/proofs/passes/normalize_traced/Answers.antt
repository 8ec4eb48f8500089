use Rattle.std.proofs.Common.{refl, sym, subst, ◌∙◌}
use Rattle.lalrpop_norm_tree.specs.Items as written
use Rattle.lalrpop_norm_common.specs.Sessions.{features_view}
use Rattle.lalrpop_norm_repr.specs.Closed.{IsClosed}
use Rattle.lalrpop_norm_explain.specs.TracedGrammars.{grammar_in, grammar_of, is_root, origins_in}
use Rattle.lalrpop_norm.specs.Faithful.{IsFaithful}
use Rattle.lalrpop_norm.proofs.RootNames.{are_roots}
use Rattle.lalrpop_norm.proofs.TracedLemmas.{refused_on, traced_fit, traced_anywhere}
use Rattle.lalrpop_norm.proofs.passes.normalize_traced.Goals as goal

pub returns-in_err-traced-clause-refuses : goal.returns-in_err-traced-clause-refuses
returns-in_err-traced-clause-refuses g c = refused_on _ c.from_residual.result _ _ c.from_residual.ensures.1 c.in_err-traced.ensures.refuses

pub returns-clause-closed : goal.returns-clause-closed
returns-clause-closed g c = subst IsClosed (sym (c.with_origins.ensures.grammar ∙ c.in_ok-lowered.ensures)) c.in_ok-traced.ensures.closed

pub returns-clause-faithful : goal.returns-clause-faithful
returns-clause-faithful g c =
    subst (IsFaithful _ (features_view c.args.session.now.features) c.args.session.now.macro_recursion_limit (written.grammar_view c.args.grammar))
    (sym (c.with_origins.ensures.grammar ∙ c.in_ok-lowered.ensures)) c.in_ok-traced.ensures.faithful

pub returns-clause-origins : goal.returns-clause-origins
returns-clause-origins g c = c.with_origins.ensures.origins ∙ c.in_ok-traced.ensures.origins

pub returns-clause-roots : goal.returns-clause-roots
returns-clause-roots g c =
    are_roots (features_view c.args.session.now.features) (written.grammar_view c.args.grammar) c.in_ok-traced.rules.keys
    (is_root c.with_origins.result) c.in_ok-traced.ensures.rules c.with_origins.ensures.rules

pub returns-clause-calls : goal.returns-clause-calls
returns-clause-calls g c =
    let fs = features_view c.args.session.now.features in
    let limit = c.args.session.now.macro_recursion_limit in
    let tree = written.grammar_view c.args.grammar in
    let faithful = subst (IsFaithful _ fs limit tree) (sym (c.with_origins.ensures.grammar ∙ c.in_ok-lowered.ensures)) c.in_ok-traced.ensures.faithful in
    traced_fit fs tree limit (grammar_in c.with_origins.result) faithful.trees
    (origins_in c.with_origins.result) (c.with_origins.ensures.origins ∙ c.in_ok-traced.ensures.origins)
    (is_root c.with_origins.result)
    (are_roots fs tree c.in_ok-traced.rules.keys (is_root c.with_origins.result) c.in_ok-traced.ensures.rules c.with_origins.ensures.rules)
    (grammar_of c.with_origins.result) (λ n. refl)

pub returns-clause-anywhere : goal.returns-clause-anywhere
returns-clause-anywhere g c =
    let fs = features_view c.args.session.now.features in
    let limit = c.args.session.now.macro_recursion_limit in
    let tree = written.grammar_view c.args.grammar in
    let faithful = subst (IsFaithful _ fs limit tree) (sym (c.with_origins.ensures.grammar ∙ c.in_ok-lowered.ensures)) c.in_ok-traced.ensures.faithful in
    traced_anywhere fs tree limit (grammar_in c.with_origins.result) faithful.trees
    (origins_in c.with_origins.result) (c.with_origins.ensures.origins ∙ c.in_ok-traced.ensures.origins)
    (grammar_of c.with_origins.result) (λ n. refl)
