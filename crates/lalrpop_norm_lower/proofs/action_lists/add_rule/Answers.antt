use Rattle.std.proofs.Common.{◌≡◌, ◌++◌, OnOk, map, subst}
use Rattle.lalrpop_norm_tree.specs.Items.{alternative_view, rule_view}
use Rattle.lalrpop_norm_shared_types.specs.Actions.{shared_action_view}
use Rattle.lalrpop_norm_lower.specs.ActionContexts.{context_types, action_by}
use Rattle.lalrpop_norm_lower.specs.Lowering.{rule_type}
use Rattle.lalrpop_norm_lower.proofs.action_lists.add_rule.Goals as goal

pub returns-clause-adds : goal.returns-clause-adds
returns-clause-adds c =
    let context = c.args.context.now in
    let before = map shared_action_view c.args.actions.now.items in
    let behind = map shared_action_view c.add_alternatives.new.actions.items in
    subst (λ xs. OnOk c.add_alternatives.result (behind ≡ before ++ map (action_by context (rule_type (context_types context) (rule_view c.args.rule.now))) (map alternative_view xs))) c.deref.ensures.value
    (subst (λ t. OnOk c.add_alternatives.result (behind ≡ before ++ map (action_by context t) (map alternative_view c.deref.result.now))) (c.in_ok-ty.ensures (rule_view c.args.rule.now) c.requires)
    c.add_alternatives.ensures.adds)
