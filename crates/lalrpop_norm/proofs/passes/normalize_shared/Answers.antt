use Rattle.std.proofs.Common.{sym, subst}
use Rattle.std.proofs.lemmas.Result.{IfOk-weaker}
use Rattle.lalrpop_norm_tree.specs.Items as written
use Rattle.lalrpop_norm_common.specs.Sessions.{features_view}
use Rattle.lalrpop_norm_shared_types.specs.Grammars.{shared_grammar_view}
use Rattle.lalrpop_norm.specs.Passed.{IsPlain}
use Rattle.lalrpop_norm.proofs.PassLemmas.{sure_exit, told_behind, plain_is_plain, refused_alike, passed, passed_faithful}
use Rattle.lalrpop_norm.proofs.passes.normalize_shared.Goals as goal

pub returns-in_err-plain-clause-refuses : goal.returns-in_err-plain-clause-refuses
returns-in_err-plain-clause-refuses g c = sure_exit _ c.from_residual.result _ _ _ c.from_residual.ensures.1 c.in_err-plain.ensures.refuses

pub check_and_lower-requires : goal.check_and_lower-requires
check_and_lower-requires g c =
    record {
      plain = subst (IsPlain (features_view c.args.session.now.features)) (sym c.in_ok-plain.ensures.plain)
          (plain_is_plain (features_view c.args.session.now.features) c.args.session.now.macro_recursion_limit (written.grammar_view c.args.grammar) c.in_ok-plain.ensures.passes);
    }

pub returns-clause-refuses : goal.returns-clause-refuses
returns-clause-refuses g c =
    told_behind _ c.check_and_lower.result _ _ c.in_ok-plain.ensures.refuses
    (refused_alike _ (written.grammar_view c.in_ok-plain.plain) _ c.in_ok-plain.ensures.plain c.check_and_lower.result c.check_and_lower.ensures.refuses)

pub returns-clause-closed : goal.returns-clause-closed
returns-clause-closed g c = IfOk-weaker c.check_and_lower.result _ _ (λ l h. h.lowered.closed) c.check_and_lower.ensures.lowered

pub returns-clause-faithful : goal.returns-clause-faithful
returns-clause-faithful g c =
    let fs = features_view c.args.session.now.features in
    let limit = c.args.session.now.macro_recursion_limit in
    let tree = written.grammar_view c.args.grammar in
    IfOk-weaker c.check_and_lower.result _ _
    (λ l h. passed_faithful _ fs limit tree (shared_grammar_view l)
    (passed _ fs limit tree (written.grammar_view c.in_ok-plain.plain) c.in_ok-plain.ensures.passes c.in_ok-plain.ensures.plain (shared_grammar_view l) h))
    c.check_and_lower.ensures.lowered
