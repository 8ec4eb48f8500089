use Rattle.lalrpop_norm_tyinfer_steps.specs.TableFaults.{lacking_seen}
use Rattle.lalrpop_norm_tyinfer_steps.specs.Visits.{rule_seen}
use Rattle.lalrpop_norm_tyinfer_steps.proofs.LoopLemmas.{exit_loop}
use Rattle.lalrpop_norm_tyinfer_steps.proofs.grounded.check_clauses.Goals as goal

pub returns-in_err-check_rule : goal.returns-in_err-check_rule
returns-in_err-check_rule c =
    exit_loop rule_seen lacking_seen c.args.rules.now c.loop-rule.rule-index c.rule-item.result _ _
    c.loop-rule-test.true c.rule-item.is c.from_residual.ensures.1 c.in_err-check_rule.ensures c.loop-rule.invariant
