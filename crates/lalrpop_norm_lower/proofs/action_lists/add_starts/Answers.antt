use Rattle.std.proofs.Common.{Bor, List, ◌∙◌, ◌+◌, ◌++◌, sym, map, drop, vec_len}
use Rattle.lalrpop_norm_faults.proofs.FaultLemmas.{exit_at, at_drop_item}
use Rattle.lalrpop_norm_tree.specs.declared.items.NonterminalData.{NonterminalData}
use Rattle.lalrpop_norm_tree.specs.Items.{rule_view}
use Rattle.lalrpop_norm_model.specs.LoweringFaults.{start_faults, action_number_faults}
use Rattle.lalrpop_norm_lower.specs.ActionContexts.{context_types}
use Rattle.lalrpop_norm_lower.specs.Made.{types_by_name, made_starts_faults}
use Rattle.lalrpop_norm_lower.proofs.action_lists.add_starts.Goals as goal

pub returns-in_err-add_start-clause-refuses : goal.returns-in_err-add_start-clause-refuses
returns-in_err-add_start-clause-refuses c =
    let prefix = c.args.context.now.prefix.now in
    let types = context_types c.args.context.now in
    let k = vec_len c.loop-rule.actions in
    let here = c.rule-item.result in
    exit_at _ _ (start_faults prefix (types_by_name types) (rule_view here.now) ++ action_number_faults k here.now.span)
    (made_starts_faults prefix types (k + 1) (map (λ (r : Bor NonterminalData). rule_view r.now) (drop (c.loop-rule.rule-index + 1) c.args.public.now)))
    (made_starts_faults prefix types (vec_len c.args.actions.now) (map (λ (r : Bor NonterminalData). rule_view r.now) c.args.public.now))
    c.from_residual.ensures.1 c.in_err-add_start.ensures.refuses
    (sym c.loop-rule.invariant.1
    ∙ at_drop_item (λ (ys : List (Bor NonterminalData)). made_starts_faults prefix types k (map (λ (r : Bor NonterminalData). rule_view r.now) ys)) c.args.public.now c.loop-rule.rule-index here c.loop-rule-test.true c.rule-item.is)
