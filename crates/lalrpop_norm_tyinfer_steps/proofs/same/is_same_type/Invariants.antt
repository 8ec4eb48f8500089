use Rattle.std.proofs.Common.{◌≡◌}
use Rattle.lalrpop_norm_shared_types.specs.Shared.{shared_view}
use Rattle.lalrpop_norm_model.specs.SameTypes.{same_type}
use Rattle.lalrpop_norm_tyinfer_steps.specs.Pairs.{same_pairs, pair_weights}
use Rattle.lalrpop_norm_tyinfer_steps.proofs.same.is_same_type.Given as goal

abbrev pub invariant-loop-a : goal.invariant-loop-a
invariant-loop-a l = same_pairs l.pending.items ≡ same_type (shared_view l.fn.a) (shared_view l.fn.b)

abbrev pub decreases-loop-a : goal.decreases-loop-a
decreases-loop-a l = pair_weights l.pending.items
