use Rattle.std.proofs.Common.{◌≡◌, map, take}
use Rattle.lalrpop_norm_tree_parts.specs.Bounds.{where_clause_view}
use Rattle.lalrpop_norm_tree.specs.Types.{type_view}
use Rattle.lalrpop_norm_tree.proofs.items.copy_grammar.copy_clauses.Given as goal

abbrev pub invariant-loop-clause : goal.invariant-loop-clause
invariant-loop-clause l = map (where_clause_view type_view) l.copies.items ≡ map (where_clause_view type_view) (take l.clause-index l.clauses)
