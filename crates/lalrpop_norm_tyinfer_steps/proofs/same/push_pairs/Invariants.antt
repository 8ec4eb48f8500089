use Rattle.std.proofs.Common.{◌≡◌, ◌&&◌, ◌+◌, ◌≤◌, drop}
use Rattle.lalrpop_norm_shared_types.specs.Weights.{all_weights}
use Rattle.lalrpop_norm_shared_types.specs.Shared.{shared_all}
use Rattle.lalrpop_norm_model.specs.SameTypes.{same_types}
use Rattle.lalrpop_norm_tyinfer_steps.specs.Pairs.{same_pairs, pair_weights}
use Rattle.lalrpop_norm_tyinfer_steps.proofs.same.push_pairs.Given as goal

abbrev pub invariant-loop-i : goal.invariant-loop-i
invariant-loop-i l =
    ((same_types (shared_all (drop l.i l.a.items)) (shared_all (drop l.i l.b.items)) && same_pairs l.pending.items) ≡ (same_types (shared_all l.a.items) (shared_all l.b.items) && same_pairs l.fn.pending.items))
    × (pair_weights l.pending.items + all_weights (drop l.i l.a.items) ≤ all_weights l.a.items + pair_weights l.fn.pending.items)
