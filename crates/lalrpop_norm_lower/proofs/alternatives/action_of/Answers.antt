use Rattle.std.proofs.Common.{◌++◌, refl, subst, sym}
use Rattle.lalrpop_norm_faults.specs.Faults.{Refuses}
use Rattle.lalrpop_norm_faults.proofs.FaultLemmas.{exit_at}
use Rattle.lalrpop_norm_tree.specs.Items.{alternative_view}
use Rattle.lalrpop_norm_model.specs.LoweringFaults.{code_faults, action_number_faults}
use Rattle.lalrpop_norm_lower.proofs.alternatives.action_of.Goals as goal

pub returns-in_err-check_code-clause-refuses : goal.returns-in_err-check_code-clause-refuses
returns-in_err-check_code-clause-refuses c =
    exit_at _ _ (code_faults (alternative_view c.args.alternative.now)) (action_number_faults c.args.number c.args.alternative.now.span) _
    c.from_residual.ensures.1 c.in_err-check_code.ensures refl

pub returns-clause-refuses : goal.returns-clause-refuses
returns-clause-refuses c =
    subst (λ fs. Refuses c.next_action.result (fs ++ action_number_faults c.args.number c.args.alternative.now.span))
    (sym c.in_ok-check_code.ensures) c.next_action.ensures.refuses
