use Rattle.std.proofs.Common.{◌≡◌, false, map, take}
use Rattle.std.specs.List.{list_any}
use Rattle.lalrpop_norm_tree_parts.specs.LifetimeNames.{is_outlives}
use Rattle.lalrpop_norm_tree_parts.specs.Reprs.{lowered_where_clause_view}
use Rattle.lalrpop_norm_tree_parts.proofs.lowered.outlives.is_said.Given as goal

abbrev pub invariant-loop-clause : goal.invariant-loop-clause
invariant-loop-clause l = list_any (is_outlives l.lifetime l.parameter) (map lowered_where_clause_view (take l.clause-index l.clauses)) ≡ false
