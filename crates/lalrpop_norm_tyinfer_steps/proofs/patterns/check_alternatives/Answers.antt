use Rattle.lalrpop_norm_tree.specs.Items.{alternative_view}
use Rattle.lalrpop_norm_tyinfer_steps.specs.Numbered.{numbered_table}
use Rattle.lalrpop_norm_model.specs.TuplePatterns.{alternative_misfits}
use Rattle.lalrpop_norm_tyinfer_steps.specs.TableValues.{type_by_name}
use Rattle.lalrpop_norm_tyinfer_steps.proofs.LoopLemmas.{exit_loop}
use Rattle.lalrpop_norm_tyinfer_steps.proofs.patterns.check_alternatives.Goals as goal

pub returns-in_err-check_alternative : goal.returns-in_err-check_alternative
returns-in_err-check_alternative c =
    exit_loop alternative_view (alternative_misfits (type_by_name (numbered_table c.args.types.now))) c.args.alternatives.now c.loop-alternative.alternative-index c.alternative-item.result _ _
    c.loop-alternative-test.true c.alternative-item.is c.from_residual.ensures.1 c.in_err-check_alternative.ensures c.loop-alternative.invariant
