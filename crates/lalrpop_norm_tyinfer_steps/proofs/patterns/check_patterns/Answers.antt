use Rattle.lalrpop_norm_tyinfer_steps.specs.Numbered.{numbered_table}
use Rattle.lalrpop_norm_model.specs.TuplePatterns.{rule_misfits}
use Rattle.lalrpop_norm_tyinfer_steps.specs.TableValues.{type_by_name}
use Rattle.lalrpop_norm_tyinfer_steps.specs.Visits.{plain_rule_view}
use Rattle.lalrpop_norm_tyinfer_steps.proofs.LoopLemmas.{exit_loop}
use Rattle.lalrpop_norm_tyinfer_steps.proofs.patterns.check_patterns.Goals as goal

pub returns-in_err-check_rule : goal.returns-in_err-check_rule
returns-in_err-check_rule c =
    exit_loop plain_rule_view (rule_misfits (type_by_name (numbered_table c.args.types.now))) c.args.rules.now c.loop-rule.rule-index c.rule-item.result _ _
    c.loop-rule-test.true c.rule-item.is c.from_residual.ensures.1 c.in_err-check_rule.ensures c.loop-rule.invariant
