use Rattle.std.proofs.Common.{◌++◌, map, sym, subst, ap, ◌∙◌}
use Rattle.lalrpop_norm_tree.specs.Items as written
use Rattle.lalrpop_norm_tree.specs.Items.{item_view}
use Rattle.lalrpop_norm_common.specs.Sessions.{features_view}
use Rattle.lalrpop_norm_shared_types.specs.Grammars.{shared_grammar_view}
use Rattle.lalrpop_norm_origins.specs.Origins.{origin_lists, origins_view}
use Rattle.lalrpop_norm_origins.specs.MadeOrigins.{in_one_list}
use Rattle.lalrpop_norm.specs.Passed.{IsPlain}
use Rattle.lalrpop_norm.specs.Roots.{start_origins}
use Rattle.lalrpop_norm.proofs.PassLemmas.{sure_exit, told_behind, plain_is_plain, refused_alike, passed, passed_faithful}
use Rattle.lalrpop_norm.proofs.TracedLemmas.{actions_have, refused_on, none_told}
use Rattle.lalrpop_norm.proofs.passes.lower_traced.Goals as goal

pub returns-in_err-plain-clause-refuses : goal.returns-in_err-plain-clause-refuses
returns-in_err-plain-clause-refuses g c = sure_exit _ c.from_residual.result _ _ _ c.from_residual.ensures.1 c.in_err-plain.ensures.refuses

pub check_and_lower-requires : goal.check_and_lower-requires
check_and_lower-requires g c =
    record {
      plain = subst (IsPlain (features_view c.args.session.now.features)) (sym c.in_ok-plain.ensures.plain)
          (plain_is_plain (features_view c.args.session.now.features) c.args.session.now.macro_recursion_limit (written.grammar_view c.args.grammar) c.in_ok-plain.ensures.passes);
    }

pub returns-in_err-lowered-clause-refuses : goal.returns-in_err-lowered-clause-refuses
returns-in_err-lowered-clause-refuses g c =
    told_behind _ c.from_residual-in_err-lowered.result _ _ c.in_ok-plain.ensures.refuses
    (refused_alike _ (written.grammar_view c.in_ok-plain.plain.grammar) _ c.in_ok-plain.ensures.plain c.from_residual-in_err-lowered.result
    (refused_on _ c.from_residual-in_err-lowered.result _ _ c.from_residual-in_err-lowered.ensures.1 c.in_err-lowered.ensures.refuses))

pub returns-clause-refuses : goal.returns-clause-refuses
returns-clause-refuses g c =
    let plain = written.grammar_view c.in_ok-plain.plain.grammar in
    none_told (features_view c.args.session.now.features) c.args.session.now.macro_recursion_limit (written.grammar_view c.args.grammar)
    c.in_ok-plain.ensures.refuses plain c.in_ok-plain.ensures.plain c.in_ok-lowered.ensures.refuses

pub returns-clause-closed : goal.returns-clause-closed
returns-clause-closed g c = c.in_ok-lowered.ensures.lowered.lowered.closed

pub returns-clause-faithful : goal.returns-clause-faithful
returns-clause-faithful g c =
    let fs = features_view c.args.session.now.features in
    let limit = c.args.session.now.macro_recursion_limit in
    let tree = written.grammar_view c.args.grammar in
    let l = shared_grammar_view c.in_ok-lowered.lowered in
    passed_faithful _ fs limit tree l
    (passed _ fs limit tree (written.grammar_view c.in_ok-plain.plain.grammar) c.in_ok-plain.ensures.passes c.in_ok-plain.ensures.plain l c.in_ok-lowered.ensures.lowered)

pub returns-clause-origins : goal.returns-clause-origins
returns-clause-origins g c =
    actions_have (features_view c.args.session.now.features) (written.grammar_view c.args.grammar) c.args.session.now.macro_recursion_limit
    c.in_ok-plain.ensures.passes (written.grammar_view c.in_ok-plain.plain.grammar) c.in_ok-plain.ensures.plain
    (origin_lists c.in_ok-plain.plain.origins.items) c.in_ok-plain.ensures.origins (origins_view c.in_ok-origins.origins.items)
    (c.in_ok-origins.ensures
    ∙ ap (λ is. start_origins (map item_view is) ++ in_one_list (origin_lists c.in_ok-plain.plain.origins.items)) c.deref.ensures.value)

pub returns-clause-rules : goal.returns-clause-rules
returns-clause-rules g c = c.in_ok-plain.ensures.rules
