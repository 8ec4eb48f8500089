use Rattle.std.proofs.Common.{arith, refl}
use borrow.Author.Count.{falls}
use Rattle.lalrpop_norm_faults.proofs.FaultLemmas.{exit_at}
use Rattle.lalrpop_norm_shared_types.specs.Shared.{shared_view, shared_all}
use Rattle.lalrpop_norm_tree.specs.Symbols.{argument_patterns_view}
use Rattle.lalrpop_norm_tyinfer_steps.proofs.MisfitLemmas.{over_types, over_no_tuple, tuple_is, as_many_is, not_as_many, next_misfits}
use Rattle.lalrpop_norm_tyinfer_steps.proofs.TupleSizes.{to_tuple, to_parts, to_one, next_rank}
use Rattle.lalrpop_norm_tyinfer_steps.proofs.patterns.+pattern.Goals as goal

pub check_parts-returns-then-given-wanted : goal.check_parts-returns-then-given-wanted
check_parts-returns-then-given-wanted t c =
    rw (not_as_many c.args.patterns.now c.args.types.now (λ e. absurd (omega arith))) c.refusal.ensures.first

pub check_parts-returns : goal.check_parts-returns
check_parts-returns t c = rw (as_many_is c.args.patterns.now c.args.types.now (omega arith)) c.check_each.ensures

pub check_each-returns-in_err-check_pattern : goal.check_each-returns-in_err-check_pattern
check_each-returns-in_err-check_pattern t c =
    exit_at _ _ _ _ _ c.from_residual.ensures.1 c.in_err-check_pattern.ensures
    (next_misfits c.args.span c.args.patterns.now c.args.types.now c.loop-i.i c.index-patterns-i.result c.index-types-i.result
    c.loop-i-test.true (omega arith) c.index-patterns-i.is c.index-types-i.is _ c.loop-i.invariant)

pub check_names-returns : goal.check_names-returns
check_names-returns t c = rw (tuple_is c.args.tuple.now) (rw c.deref.ensures.value at c.check_tuple.ensures)

pub check_tuple-returns-in-Some : goal.check_tuple-returns-in-Some
check_tuple-returns-in-Some t c = over_types _ _ (shared_view c.args.ty.now) (shared_all c.in-Some.types.now) _ c.in-Some.ensures c.check_parts.ensures

pub check_tuple-returns-in-None : goal.check_tuple-returns-in-None
check_tuple-returns-in-None t c = rw (over_no_tuple c.args.span (argument_patterns_view c.args.patterns.now) (shared_view c.args.ty.now) c.in-None.ensures) c.refusal.ensures.first

pub check_each-check_pattern-requires : goal.check_each-check_pattern-requires
check_each-check_pattern-requires t c = (to_one t _ _ _ c.loop-i-test.true c.index-patterns-i.is c.decreases, tt)

pub check_names-check_tuple-requires : goal.check_names-check_tuple-requires
check_names-check_tuple-requires t c = (to_parts t c.args.tuple.now _ c.deref.ensures.value c.decreases, tt)

pub check_tuple-check_parts-requires : goal.check_tuple-check_parts-requires
check_tuple-check_parts-requires t c = (next_rank t _ 2 c.decreases, tt)

pub check_pattern-check_names-requires : goal.check_pattern-check_names-requires
check_pattern-check_names-requires t c = (to_tuple t c.args.pattern.now _ c.in-Tuple.is c.decreases, tt)

pub check_each-loop-i-init : goal.check_each-loop-i-init
check_each-loop-i-init t c = refl

pub check_each-loop-i-smaller : goal.check_each-loop-i-smaller
check_each-loop-i-smaller t c = falls _ _ c.loop-i-test.true
