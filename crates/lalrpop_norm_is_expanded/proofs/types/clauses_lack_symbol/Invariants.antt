use Rattle.std.proofs.Common.{◌≡◌, drop, map}
use Rattle.std.specs.List.{list_all}
use Rattle.lalrpop_norm_tree_parts.specs.Bounds.{where_clause_view}
use Rattle.lalrpop_norm_tree.specs.Types.{type_view}
use Rattle.lalrpop_norm_is_expanded.specs.Types.{clause_lacks_symbol}
use Rattle.lalrpop_norm_is_expanded.proofs.types.clauses_lack_symbol.Given as goal

abbrev pub invariant-loop-clause : goal.invariant-loop-clause
invariant-loop-clause l = list_all clause_lacks_symbol (map (where_clause_view type_view) (drop l.clause-index l.clauses)) ≡ list_all clause_lacks_symbol (map (where_clause_view type_view) l.clauses)
