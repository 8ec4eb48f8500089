use Rattle.std.proofs.Common.{arith}
use Rattle.lalrpop_norm_tree.specs.Items.{alternative_view}
use Rattle.lalrpop_norm_tyinfer_steps.specs.Numbered.{numbered_table}
use Rattle.lalrpop_norm_tyinfer_steps.specs.TableFaults.{other_in}
use Rattle.lalrpop_norm_tyinfer_steps.proofs.LoopLemmas.{exit_loop}
use Rattle.lalrpop_norm_tyinfer.proofs.Loops.{passed_on, all_passed}
use Rattle.lalrpop_norm_tyinfer.proofs.tyinfer.agreement.check_alternatives.Goals as goal

pub returns-in_err-check_alternative : goal.returns-in_err-check_alternative
returns-in_err-check_alternative c =
    λ ps. exit_loop alternative_view (other_in ps (numbered_table c.args.types.now) c.args.name.now.0) c.args.alternatives.now c.loop-alternative.alternative-index c.alternative-item.result _ _
    (omega arith) c.alternative-item.is c.from_residual.ensures.1 (c.in_err-check_alternative.ensures ps) (c.loop-alternative.invariant ps)

pub loop-alternative-preserved : goal.loop-alternative-preserved
loop-alternative-preserved c =
    λ ps. passed_on alternative_view (other_in ps (numbered_table c.args.types.now) c.args.name.now.0) c.args.alternatives.now c.loop-alternative.alternative-index c.alternative-item.result
    (omega arith) c.alternative-item.is (c.in_ok-check_alternative.ensures ps) (c.loop-alternative.invariant ps)

pub returns : goal.returns
returns c = λ ps. all_passed alternative_view (other_in ps (numbered_table c.args.types.now) c.args.name.now.0) c.args.alternatives.now c.loop-alternative.alternative-index (omega arith) (c.loop-alternative.invariant ps)
