use Rattle.std.proofs.Common.{◌≡◌, map, drop}
use Rattle.lalrpop_norm_tree_names.specs.NewLifetimes.{BeginsWith}
use Rattle.lalrpop_norm_tree_parts.specs.LifetimeNames.{with_outlives}
use Rattle.lalrpop_norm_tree_parts.specs.Reprs.{lowered_where_clause_view}
use Rattle.lalrpop_norm_tree_parts.proofs.lowered.outlives.add_each.Given as goal

abbrev pub invariant-loop-parameter : goal.invariant-loop-parameter
invariant-loop-parameter l =
    (with_outlives l.lifetime (map lowered_where_clause_view l.clauses.items) (drop l.parameter-index l.parameters) ≡ with_outlives l.lifetime (map lowered_where_clause_view l.fn.clauses.items) l.parameters)
    × BeginsWith l.clauses.items l.fn.clauses.items
