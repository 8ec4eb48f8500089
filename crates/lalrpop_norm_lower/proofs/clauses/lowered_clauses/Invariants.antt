use Rattle.std.proofs.Common.{◌≡◌, ◌++◌, drop, map}
use Rattle.std.specs.Prelude.{flat_map}
use Rattle.lalrpop_norm_tree_parts.specs.Bounds.{where_clause_view}
use Rattle.lalrpop_norm_tree_parts.specs.Reprs.{lowered_where_clause_view}
use Rattle.lalrpop_norm_tree.specs.Types.{type_view}
use Rattle.lalrpop_norm_lower.specs.Carried.{lowered_clauses}
use Rattle.lalrpop_norm_lower.proofs.clauses.lowered_clauses.Given as goal

abbrev pub invariant-loop-clause : goal.invariant-loop-clause
invariant-loop-clause l = map lowered_where_clause_view l.lowered.items ++ flat_map lowered_clauses (map (where_clause_view type_view) (drop l.clause-index l.clauses)) ≡ flat_map lowered_clauses (map (where_clause_view type_view) l.clauses)
