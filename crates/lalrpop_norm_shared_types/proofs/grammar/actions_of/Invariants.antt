use Rattle.std.proofs.Common.{◌≡◌, ◌++◌, map}
use Rattle.lalrpop_norm_repr.specs.Actions.{action_defn_view}
use Rattle.lalrpop_norm_shared_types.specs.Actions.{shared_action_view}
use Rattle.lalrpop_norm_shared_types.proofs.grammar.actions_of.Given as goal

abbrev pub invariant-loop-action : goal.invariant-loop-action
invariant-loop-action l =
    map action_defn_view l.copies.items ++ map shared_action_view l.action-iterator.rest.items ≡ map shared_action_view l.fn.actions.items
