use Rattle.std.proofs.lemmas.Result.{IfOk-weaker}
use Rattle.lalrpop_norm_tree.specs.Items as written
use Rattle.lalrpop_norm_common.specs.Sessions.{features_view}
use Rattle.lalrpop_norm.proofs.PassLemmas.{told_exit, is_expanded, is_typed, late_exit, lowered_so}
use Rattle.lalrpop_norm.proofs.RulesLemmas.{rules_where}
use Rattle.lalrpop_norm.proofs.passes.check_and_lower_rules.Goals as goal

pub returns-in_err-entered-clause-refuses : goal.returns-in_err-entered-clause-refuses
returns-in_err-entered-clause-refuses g c = told_exit _ c.from_residual.result _ _ _ c.from_residual.ensures.1 c.in_err-entered.ensures.refuses

pub type_and_lower_rules-requires : goal.type_and_lower_rules-requires
type_and_lower_rules-requires g c =
    is_expanded _ (features_view c.args.session.now.features) (written.grammar_view c.args.plain) c.requires.plain (written.grammar_view c.in_ok-entered.entered)
    c.in_ok-entered.ensures.refuses c.in_ok-entered.ensures.checked

pub returns-clause-refuses : goal.returns-clause-refuses
returns-clause-refuses g c =
    late_exit _ (features_view c.args.session.now.features) (written.grammar_view c.args.plain) c.requires.plain (written.grammar_view c.in_ok-entered.entered)
    c.in_ok-entered.ensures.refuses c.in_ok-entered.ensures.checked c.type_and_lower_rules.result c.type_and_lower_rules.ensures.refuses

pub returns-clause-lowered : goal.returns-clause-lowered
returns-clause-lowered g c =
    let fs = features_view c.args.session.now.features in
    let plain = written.grammar_view c.args.plain in
    let entered = written.grammar_view c.in_ok-entered.entered in
    IfOk-weaker c.type_and_lower_rules.result _ _
    (rules_where (lowered_so _ fs plain c.requires.plain entered c.in_ok-entered.ensures.refuses c.in_ok-entered.ensures.checked))
    (c.type_and_lower_rules.ensures.lowered fs (is_typed _ fs plain c.requires.plain entered c.in_ok-entered.ensures.refuses c.in_ok-entered.ensures.checked))
