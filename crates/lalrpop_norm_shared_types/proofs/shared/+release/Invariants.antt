use Rattle.std.proofs.Common.{◌+◌, ◌≤◌}
use Rattle.lalrpop_norm_shared_types.specs.Depths.{deepest}
use Rattle.lalrpop_norm_shared_types.specs.Weights.{all_weights, maybe_weight}
use Rattle.lalrpop_norm_shared_types.proofs.shared.+release.Given as goal

abbrev pub decreases-release::release_all : goal.decreases-release::release_all
decreases-release::release_all l = deepest l.types.items l.ret + 1

abbrev pub invariant-release::release_all-loop-next : goal.invariant-release::release_all-loop-next
invariant-release::release_all-loop-next l = deepest l.pending.items l.next ≤ deepest l.fn.types.items l.fn.ret

abbrev pub decreases-release::release_all-loop-next : goal.decreases-release::release_all-loop-next
decreases-release::release_all-loop-next l = all_weights l.pending.items + maybe_weight l.next
