use Rattle.std.proofs.Common.{map, take}
use Rattle.std.specs.List.{AllZip}
use Rattle.lalrpop_norm_tree_parts.specs.Bounds.{bound_view, SameBound}
use Rattle.lalrpop_norm_tree_parts.proofs.bound.copy.copy_bounds.Given as goal

abbrev pub invariant-loop-bound : goal.invariant-loop-bound
invariant-loop-bound g l = AllZip (SameBound g.T.Clone.is_clone) (map (bound_view (λ t. t)) (take l.bound-index l.bounds)) (map (bound_view (λ t. t)) l.copies.items)
