use Rattle.std.proofs.Common.{[], map, refl, sym, ◌∙◌}
use Rattle.std.proofs.lemmas.List.{append-nil, at_drop_all}
use Rattle.std.proofs.lemmas.Result.{IfOk-from_err}
use borrow.Author.Count.{falls}
use Rattle.lalrpop_norm_tree_parts.specs.LifetimeNames.{is_outlives, outlives, with_outlives}
use Rattle.lalrpop_norm_tree_parts.specs.Reprs.{lowered_where_clause_view}
use Rattle.lalrpop_norm_tree_parts.proofs.OutlivesLemmas.{begins_then, new_more}
use Rattle.lalrpop_norm_tree_parts.proofs.lowered.outlives.add_each.Goals as goal

pub loop-parameter-preserved : goal.loop-parameter-preserved
loop-parameter-preserved c = (
  new_more (is_outlives c.args.lifetime.now) (outlives c.args.lifetime.now) c.args.parameters.now c.loop-parameter.parameter-index c.parameter-item.result (map lowered_where_clause_view c.loop-parameter.clauses.items)
      (map lowered_where_clause_view c.add_clause.new.clauses.items) _ c.loop-parameter-test.true c.loop-parameter.invariant.0 (rw (← c.parameter-item.is) c.in_ok-add_clause.ensures.added),
  begins_then c.args.clauses.now.items c.loop-parameter.clauses.items c.add_clause.new.clauses.items c.loop-parameter.invariant.1 c.in_ok-add_clause.ensures.begins,
)

pub loop-parameter-init : goal.loop-parameter-init
loop-parameter-init c = (refl, ([], sym (append-nil c.args.clauses.now.items)))

pub loop-parameter-smaller : goal.loop-parameter-smaller
loop-parameter-smaller c = falls _ _ c.loop-parameter-test.true

pub returns-in_err-add_clause : goal.returns-in_err-add_clause
returns-in_err-add_clause c = record {
  added = IfOk-from_err _ _ c.from_residual.ensures.0;
  begins = begins_then c.args.clauses.now.items c.loop-parameter.clauses.items c.add_clause.new.clauses.items c.loop-parameter.invariant.1 c.in_err-add_clause.ensures.begins;
}

pub returns : goal.returns
returns c = record {
  added = sym (at_drop_all (with_outlives c.args.lifetime.now (map lowered_where_clause_view c.loop-parameter.clauses.items)) c.args.parameters.now c.loop-parameter.parameter-index c.loop-parameter-test.false) ∙ c.loop-parameter.invariant.0;
  begins = c.loop-parameter.invariant.1;
}
