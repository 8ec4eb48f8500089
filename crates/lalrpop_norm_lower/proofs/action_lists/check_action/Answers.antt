use Rattle.std.proofs.Common.{refl, length}
use Rattle.lalrpop_norm_faults.proofs.FaultLemmas.{exit_at}
use Rattle.lalrpop_norm_tree.specs.Items.{alternative_view}
use Rattle.lalrpop_norm_model.specs.LoweringFaults.{code_faults, action_number_faults}
use Rattle.lalrpop_norm_lower.proofs.action_lists.check_action.Goals as goal

pub returns-in_err-check_code-clause-refuses : goal.returns-in_err-check_code-clause-refuses
returns-in_err-check_code-clause-refuses c =
    exit_at _ _ (code_faults (alternative_view c.args.alternative.now)) (action_number_faults (length c.args.actions.now) c.args.alternative.now.span) _
    c.from_residual.ensures.1 c.in_err-check_code.ensures refl
