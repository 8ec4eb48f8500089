use Rattle.std.proofs.Common.{map, refl, ap, ◌∙◌}
use Rattle.std.proofs.lemmas.List.{take_all}
use Rattle.std.proofs.lemmas.Result.{IfOk-from_err}
use borrow.Author.Count.{falls}
use Rattle.lalrpop_norm_tree_parts.proofs.WalkLemmas.{shape_more}
use Rattle.lalrpop_norm_tree_parts.specs.Bounds.{where_clause_view}
use Rattle.lalrpop_norm_tree.specs.Types.{type_view}
use Rattle.lalrpop_norm_tree.proofs.items.copy_grammar.copy_clauses.Goals as goal

pub loop-clause-init : goal.loop-clause-init
loop-clause-init c = rw (c.new-copies.ensures.items) refl

pub loop-clause-preserved : goal.loop-clause-preserved
loop-clause-preserved c =
    rw (c.in_ok-push.ensures.items)
    (shape_more (where_clause_view type_view) (where_clause_view type_view) c.args.clauses.now c.loop-clause.copies.items c.loop-clause.clause-index c.clause-item.result c.in_ok-copy_clause.field-0 c.loop-clause-test.true c.loop-clause.invariant (rw (← c.clause-item.is) c.in_ok-copy_clause.ensures))

pub loop-clause-smaller : goal.loop-clause-smaller
loop-clause-smaller c = falls _ _ c.loop-clause-test.true

pub returns : goal.returns
returns c = c.loop-clause.invariant ∙ ap (map (where_clause_view type_view)) (take_all c.loop-clause.clause-index c.args.clauses.now c.loop-clause-test.false)

pub returns-in_err-copy_clause : goal.returns-in_err-copy_clause
returns-in_err-copy_clause c = IfOk-from_err _ _ c.from_residual.ensures.0

pub returns-in_err-push : goal.returns-in_err-push
returns-in_err-push c = IfOk-from_err _ _ c.from_residual-in_err-push.ensures.0
