use Rattle.std.proofs.Common.{List, take, map}
use Rattle.lalrpop_norm_tree_names.specs.declared.names.TypeParameter.{TypeParameter}
use Rattle.lalrpop_norm_tyinfer_steps.specs.Clauses.{clause_view}
use Rattle.lalrpop_norm_names.specs.Numbers.{number_in_table}
use Rattle.lalrpop_norm_tyinfer_steps.specs.Needs.{AddsNeeds}
use Rattle.lalrpop_norm_tyinfer_steps.proofs.needs.add_clauses.Given as goal

abbrev pub invariant-loop-clause : goal.invariant-loop-clause
invariant-loop-clause l = (ps : List TypeParameter) → AddsNeeds (number_in_table l.names) ps l.initial.needs.items l.needs.items (map clause_view (take l.clause-index l.clauses)) l.rule
