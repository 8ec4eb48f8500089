use Rattle.std.proofs.Common.{◌≡◌, ◌++◌, drop, map}
use Rattle.lalrpop_norm_tree_parts.specs.Bounds.{bound_view}
use Rattle.lalrpop_norm_tree_parts.specs.Reprs.{lowered_where_clause_view, has_bound}
use Rattle.lalrpop_norm_tree.specs.Types.{type_view}
use Rattle.lalrpop_norm_lower.specs.Carried.{under}
use Rattle.lalrpop_norm_lower.specs.Carried.{lowered_bound}
use Rattle.lalrpop_norm_tree.specs.LoweredTypes.{repr_of}
use Rattle.lalrpop_norm_lower.proofs.clauses.add_bounds.Given as goal

abbrev pub invariant-loop-bound : goal.invariant-loop-bound
invariant-loop-bound l =
    map lowered_where_clause_view l.lowered.items ++ map (λ b. under l.forall.items (has_bound (repr_of (type_view l.ty)) (lowered_bound b))) (map (bound_view type_view) (drop l.bound-index l.bounds))
    ≡ map lowered_where_clause_view l.initial.lowered.items ++ map (λ b. under l.forall.items (has_bound (repr_of (type_view l.ty)) (lowered_bound b))) (map (bound_view type_view) l.bounds)
