use Rattle.std.proofs.Common.{◌≡◌, ◌++◌, drop, map}
use Rattle.lalrpop_norm_tree_parts.specs.Bounds.{lifetime_bound}
use Rattle.lalrpop_norm_tree_parts.specs.Reprs.{lowered_where_clause_view, of_lifetime, has_bound}
use Rattle.lalrpop_norm_lower.proofs.clauses.add_lifetimes.Given as goal

abbrev pub invariant-loop-bound : goal.invariant-loop-bound
invariant-loop-bound l =
    map lowered_where_clause_view l.lowered.items ++ map (λ m. has_bound (of_lifetime l.lifetime) (lifetime_bound m)) (drop l.bound-index l.bounds)
    ≡ map lowered_where_clause_view l.initial.lowered.items ++ map (λ m. has_bound (of_lifetime l.lifetime) (lifetime_bound m)) l.bounds
