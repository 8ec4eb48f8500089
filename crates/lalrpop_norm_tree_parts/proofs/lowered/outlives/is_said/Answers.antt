use Rattle.std.proofs.Common.{arith, sym, ◌∙◌}
use Rattle.std.proofs.lemmas.List.Folds.{list_any_at}
use Rattle.lalrpop_norm_tree_parts.specs.LifetimeNames.{is_outlives}
use Rattle.lalrpop_norm_tree_parts.specs.Reprs.{lowered_where_clause_view}
use Rattle.lalrpop_norm_tree_parts.proofs.OutlivesLemmas.{any_mapped}
use Rattle.lalrpop_norm_tree_parts.proofs.lowered.outlives.is_said.Goals as goal

pub returns-then-says : goal.returns-then-says
returns-then-says c =
    sym (any_mapped (is_outlives c.args.lifetime.now c.args.parameter.now) lowered_where_clause_view c.args.clauses.now
    ∙ list_any_at (λ x. is_outlives c.args.lifetime.now c.args.parameter.now (lowered_where_clause_view x)) c.args.clauses.now c.loop-clause.clause-index c.clause-item.result (omega arith) (rw (← c.clause-item.is) (sym c.says.ensures.tested ∙ c.if-says.true)))
