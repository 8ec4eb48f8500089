use Rattle.std.proofs.Common.{◌≡◌, ◌++◌, drop, map}
use Rattle.std.specs.Prelude.{filter_map}
use Rattle.lalrpop_norm_tree.specs.Items.{alternative_view}
use Rattle.lalrpop_norm_model.specs.TypeRelation.{alternative_clause}
use Rattle.lalrpop_norm_tyinfer_steps.specs.Clauses.{clause_view}
use Rattle.lalrpop_norm_tyinfer_steps.proofs.type_sources.alternative_clauses.Given as goal

abbrev pub invariant-loop-alternative : goal.invariant-loop-alternative
invariant-loop-alternative l =
    map clause_view l.clauses.items ++ filter_map alternative_clause (map alternative_view (drop l.alternative-index l.alternatives))
    ≡ filter_map alternative_clause (map alternative_view l.alternatives)
