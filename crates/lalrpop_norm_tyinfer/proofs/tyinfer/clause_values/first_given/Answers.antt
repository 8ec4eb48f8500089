use Rattle.lalrpop_norm_shared_types.specs.Shared.{shared_view}
use Rattle.lalrpop_norm_tyinfer_steps.specs.Numbered.{numbered_table}
use borrow.Author.Count.{falls}
use Rattle.lalrpop_norm_tyinfer.proofs.Loops.{none_first, next_first, found_first}
use Rattle.lalrpop_norm_tyinfer.proofs.tyinfer.clause_values.first_given.Goals as goal

pub loop-clause-preserved : goal.loop-clause-preserved
loop-clause-preserved c =
    λ ps. next_first ps (numbered_table c.args.types.now) c.args.clauses.now c.loop-clause.clause-index c.clause-item.result _ c.loop-clause-test.true c.clause-item.is (c.loop-clause.invariant ps)
    (rw c.in_default.is at (c.in_ok-ty.ensures ps))

pub loop-clause-smaller : goal.loop-clause-smaller
loop-clause-smaller c = falls _ _ c.loop-clause-test.true

pub returns : goal.returns
returns c = λ ps. none_first ps (numbered_table c.args.types.now) c.args.clauses.now c.loop-clause.clause-index _ c.loop-clause-test.false (c.loop-clause.invariant ps)

pub returns-in-Some : goal.returns-in-Some
returns-in-Some c =
    λ ps. found_first ps (numbered_table c.args.types.now) c.args.clauses.now c.loop-clause.clause-index c.clause-item.result _ c.loop-clause-test.true c.clause-item.is (c.loop-clause.invariant ps)
    (shared_view c.in-Some.ty) (rw c.in-Some.is at (c.in_ok-ty.ensures ps))
