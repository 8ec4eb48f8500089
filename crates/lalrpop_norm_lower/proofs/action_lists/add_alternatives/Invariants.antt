use Rattle.std.proofs.Common.{◌≡◌, ◌+◌, ◌++◌, drop, map, vec_len}
use Rattle.lalrpop_norm_tree.specs.Items.{alternative_view}
use Rattle.lalrpop_norm_shared_types.specs.Shared.{shared_view}
use Rattle.lalrpop_norm_shared_types.specs.Actions.{shared_action_view}
use Rattle.lalrpop_norm_lower.specs.ActionContexts.{action_by}
use Rattle.lalrpop_norm_lower.specs.Made.{alternatives_faults}
use Rattle.lalrpop_norm_lower.proofs.action_lists.add_alternatives.Given as goal

abbrev pub invariant-loop-alternative : goal.invariant-loop-alternative
invariant-loop-alternative l =
    (vec_len l.actions ≡ vec_len l.initial.actions + l.alternative-index)
    × (alternatives_faults (vec_len l.actions) (map alternative_view (drop l.alternative-index l.alternatives)) ≡ alternatives_faults (vec_len l.initial.actions) (map alternative_view l.alternatives))
    × (map shared_action_view l.actions.items ++ map (action_by l.context (shared_view l.ty)) (map alternative_view (drop l.alternative-index l.alternatives)) ≡ map shared_action_view l.initial.actions.items ++ map (action_by l.context (shared_view l.ty)) (map alternative_view l.alternatives))
