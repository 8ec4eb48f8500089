use Rattle.std.proofs.Common.{◌∙◌, ◌+◌, ◌++◌, sym, map, drop, vec_len}
use Rattle.lalrpop_norm_faults.proofs.FaultLemmas.{exit_at, at_drop_item}
use Rattle.lalrpop_norm_tree.specs.Items.{alternative_view}
use Rattle.lalrpop_norm_model.specs.LoweringFaults.{code_faults, action_number_faults}
use Rattle.lalrpop_norm_lower.specs.Made.{alternatives_faults}
use Rattle.lalrpop_norm_lower.proofs.action_lists.add_alternatives.Goals as goal

pub returns-in_err-add_action-clause-refuses : goal.returns-in_err-add_action-clause-refuses
returns-in_err-add_action-clause-refuses c =
    let k = vec_len c.loop-alternative.actions in
    let here = c.alternative-item.result in
    exit_at _ _ (code_faults (alternative_view here) ++ action_number_faults k here.span)
    (alternatives_faults (k + 1) (map alternative_view (drop (c.loop-alternative.alternative-index + 1) c.args.alternatives.now)))
    (alternatives_faults (vec_len c.args.actions.now) (map alternative_view c.args.alternatives.now))
    c.from_residual.ensures.1 c.in_err-add_action.ensures.refuses
    (sym c.loop-alternative.invariant.1
    ∙ at_drop_item (λ ys. alternatives_faults k (map alternative_view ys)) c.args.alternatives.now c.loop-alternative.alternative-index here c.loop-alternative-test.true c.alternative-item.is)
