use Rattle.std.proofs.Common.{◌≡◌, map, take}
use Rattle.lalrpop_norm_tree_parts.specs.Reprs.{lowered_where_clause_view}
use Rattle.lalrpop_norm_repr.proofs.whole.copy.copy_clauses.Given as goal

abbrev pub invariant-loop-clause : goal.invariant-loop-clause
invariant-loop-clause l = map lowered_where_clause_view l.copies.items ≡ map lowered_where_clause_view (take l.clause-index l.clauses)
