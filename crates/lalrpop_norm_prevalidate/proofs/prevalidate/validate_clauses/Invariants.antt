use Rattle.std.proofs.Common.{◌≡◌, map, drop}
use Rattle.std.specs.List.{flat_map}
use Rattle.lalrpop_norm_tree.specs.Types.{type_view}
use Rattle.lalrpop_norm_tree_parts.specs.Bounds.{where_clause_view}
use Rattle.lalrpop_norm_prevalidate.specs.GrammarFaults.{clause_faults}
use Rattle.lalrpop_norm_prevalidate.proofs.prevalidate.validate_clauses.Given as goal

abbrev pub invariant-loop-clause : goal.invariant-loop-clause
invariant-loop-clause l = flat_map (clause_faults l.span) (map (where_clause_view type_view) (drop l.clause-index l.clauses)) ≡ flat_map (clause_faults l.span) (map (where_clause_view type_view) l.clauses)
