use Rattle.std.proofs.Common.{arith}
use Rattle.lalrpop_norm_tyinfer_steps.specs.Numbered.{numbered_table}
use Rattle.lalrpop_norm_tyinfer_steps.specs.TableFaults.{others_in}
use Rattle.lalrpop_norm_tyinfer_steps.specs.Visits.{plain_rule_view}
use Rattle.lalrpop_norm_tyinfer_steps.proofs.LoopLemmas.{exit_loop}
use Rattle.lalrpop_norm_tyinfer.proofs.AgreementLemmas.{agrees_at}
use Rattle.lalrpop_norm_tyinfer.proofs.Loops.{passed_on, all_passed}
use Rattle.lalrpop_norm_tyinfer.proofs.tyinfer.agreement.check_agreement.Goals as goal

pub returns-in_err-check_rule : goal.returns-in_err-check_rule
returns-in_err-check_rule c =
    λ ps agree. exit_loop plain_rule_view (others_in ps (numbered_table c.args.types.now)) c.args.rules.now c.loop-rule.rule-index c.rule-item.result _ _
    (omega arith) c.rule-item.is c.from_residual.ensures.1 (c.in_err-check_rule.ensures ps (agrees_at ps (numbered_table c.args.types.now) c.args.rules.now c.loop-rule.rule-index c.rule-item.result (omega arith) c.rule-item.is agree)) (c.loop-rule.invariant ps agree)

pub loop-rule-preserved : goal.loop-rule-preserved
loop-rule-preserved c =
    λ ps agree. passed_on plain_rule_view (others_in ps (numbered_table c.args.types.now)) c.args.rules.now c.loop-rule.rule-index c.rule-item.result
    (omega arith) c.rule-item.is (c.in_ok-check_rule.ensures ps (agrees_at ps (numbered_table c.args.types.now) c.args.rules.now c.loop-rule.rule-index c.rule-item.result (omega arith) c.rule-item.is agree)) (c.loop-rule.invariant ps agree)

pub returns : goal.returns
returns c = λ ps agree. all_passed plain_rule_view (others_in ps (numbered_table c.args.types.now)) c.args.rules.now c.loop-rule.rule-index (omega arith) (c.loop-rule.invariant ps agree)
