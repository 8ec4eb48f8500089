use Rattle.std.proofs.Common.{◌≡◌, List, drop, map}
use Rattle.lalrpop_norm_tree_names.specs.declared.names.TypeParameter.{TypeParameter}
use Rattle.lalrpop_norm_tyinfer_steps.specs.Numbered.{numbered_table}
use Rattle.lalrpop_norm_tyinfer_steps.specs.Clauses.{clause_view, first_in}
use Rattle.lalrpop_norm_tyinfer.proofs.tyinfer.clause_values.first_given.Given as goal

abbrev pub invariant-loop-clause : goal.invariant-loop-clause
invariant-loop-clause l = (ps : List TypeParameter) → first_in ps (numbered_table l.types) (map clause_view (drop l.clause-index l.clauses)) ≡ first_in ps (numbered_table l.types) (map clause_view l.clauses)
