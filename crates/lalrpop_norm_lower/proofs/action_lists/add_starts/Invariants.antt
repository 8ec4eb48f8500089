use Rattle.std.proofs.Common.{◌≡◌, ◌+◌, ◌++◌, drop, map, vec_len}
use Rattle.lalrpop_norm_tree.specs.Items.{rule_view}
use Rattle.lalrpop_norm_shared_types.specs.Actions.{shared_action_view}
use Rattle.lalrpop_norm_lower.specs.ActionContexts.{context_types}
use Rattle.lalrpop_norm_lower.specs.Made.{made_starts_faults, made_starts}
use Rattle.lalrpop_norm_lower.proofs.action_lists.add_starts.Given as goal

abbrev pub invariant-loop-rule : goal.invariant-loop-rule
invariant-loop-rule l =
    (vec_len l.actions ≡ vec_len l.initial.actions + l.rule-index)
    × (made_starts_faults l.context.prefix.now (context_types l.context) (vec_len l.actions) (map (λ r. rule_view r.now) (drop l.rule-index l.public)) ≡ made_starts_faults l.context.prefix.now (context_types l.context) (vec_len l.initial.actions) (map (λ r. rule_view r.now) l.public))
    × (map shared_action_view l.actions.items ++ made_starts l.context.prefix.now (context_types l.context) (map (λ r. rule_view r.now) (drop l.rule-index l.public)) ≡ map shared_action_view l.initial.actions.items ++ made_starts l.context.prefix.now (context_types l.context) (map (λ r. rule_view r.now) l.public))
