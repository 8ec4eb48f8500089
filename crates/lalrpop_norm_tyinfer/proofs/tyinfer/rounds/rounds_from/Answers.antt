use Rattle.std.proofs.Common.{◌≡◌, length, suc, add-one, arith}
use Rattle.lalrpop_norm_tyinfer_steps.proofs.VisitLemmas.{ends_none, ends_more, ends_quiet}
use Rattle.lalrpop_norm_tyinfer.proofs.tyinfer.rounds.rounds_from.Goals as goal

pub loop-count-init : goal.loop-count-init
loop-count-init c = record {
  between = c.requires;
  ends = ends_none _ _ _;
}

pub loop-count-preserved : goal.loop-count-preserved
loop-count-preserved c = record {
  between = c.in_ok-now.ensures.between;
  ends = rw add-one (ends_more _ _ _ _ _ _ c.loop-count.invariant.ends c.in_ok-now.ensures.passes);
}

pub round-requires : goal.round-requires
round-requires c = c.loop-count.invariant.between

pub returns-then-is_empty-clause-numbered : goal.returns-then-is_empty-clause-numbered
returns-then-is_empty-clause-numbered c = c.in_ok-now.ensures.between.numbered

pub returns-clause-numbered : goal.returns-clause-numbered
returns-clause-numbered c = c.loop-count.invariant.between.numbered

pub returns-then-is_empty-clause-ends : goal.returns-then-is_empty-clause-ends
returns-then-is_empty-clause-ends c =
    let none = rw c.if-is_empty.true at c.is_empty.ensures.none in
    ends_quiet _ _ _ _ (suc c.loop-count.count) _ (ends_more _ _ _ _ _ _ c.loop-count.invariant.ends c.in_ok-now.ensures.passes)
    (λ k s here. c.in_ok-now.ensures.between.waits.quiet k s here (none k)) (omega arith)

pub returns-clause-ends : goal.returns-clause-ends
returns-clause-ends c =
    let all : c.loop-count.count ≡ length c.args.inference.now.rules.now = omega arith in
    rw all at c.loop-count.invariant.ends
