use Rattle.lalrpop_norm_tyinfer_steps.specs.Clauses.{clause_view}
use Rattle.lalrpop_norm_names.specs.Numbers.{number_in_table}
use Rattle.lalrpop_norm_tyinfer_steps.proofs.NeedLemmas.{adds_none, adds_more, mapped_more}
use Rattle.std.proofs.Common.{map, take}
use Rattle.std.proofs.lemmas.List.{take_all}
use Rattle.lalrpop_norm_tyinfer_steps.proofs.needs.add_clauses.Goals as goal

pub loop-clause-init : goal.loop-clause-init
loop-clause-init c = λ ps. adds_none (number_in_table c.args.names.now) ps c.args.needs.now.items c.args.rule

pub loop-clause-preserved : goal.loop-clause-preserved
loop-clause-preserved c =
    let clauses = c.args.clauses.now in
    let i = c.loop-clause.clause-index in
    λ ps. rw (mapped_more clause_view clauses i c.clause-item.result c.loop-clause-test.true c.clause-item.is, c.in_ok-push.ensures.items)
    (adds_more (number_in_table c.args.names.now) ps c.args.needs.now.items c.loop-clause.needs.items (map clause_view (take i clauses)) (clause_view c.clause-item.result) c.args.rule _
    (c.loop-clause.invariant ps) (c.in_ok-need_of_clause.ensures ps))

pub returns : goal.returns
returns c = λ ps. rw (take_all c.loop-clause.clause-index c.args.clauses.now c.loop-clause-test.false) at (c.loop-clause.invariant ps)
