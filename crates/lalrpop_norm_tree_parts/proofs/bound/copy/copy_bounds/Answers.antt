use Rattle.std.proofs.Common.{arith}
use Rattle.std.proofs.lemmas.List.{take_more}
use Rattle.lalrpop_norm_tree_parts.specs.Bounds.{bound_view, SameBound}
use Rattle.lalrpop_norm_tree_parts.proofs.BoundLemmas.{all_zip_more}
use Rattle.lalrpop_norm_tree_parts.proofs.bound.copy.copy_bounds.Goals as goal

pub loop-bound-preserved : goal.loop-bound-preserved
loop-bound-preserved g c =
    let i = c.loop-bound.bound-index in
    let more = take_more c.args.bounds.now i c.bound-item.result (omega arith) in
    rw (c.in_ok-push.ensures.items, more) (all_zip_more (SameBound g.T.Clone.is_clone) (bound_view (λ t. t)) _ _ _ _ c.loop-bound.invariant (rw (← c.bound-item.is) c.in_ok-copy_bound.ensures))
