use Rattle.std.proofs.Common.{ap, ◌∙◌}
use borrow.Author.Count.{falls}
use Rattle.lalrpop_norm_explain.specs.Plans.{own_plan}
use Rattle.lalrpop_norm_explain.proofs.WaySteps.{no_own, next_own, found_own}
use Rattle.lalrpop_norm_explain.proofs.levels.own_production.Goals as goal

pub loop-place-preserved : goal.loop-place-preserved
loop-place-preserved c =
    next_own c.args.traced.now c.productions-productions.result.now c.loop-place.place c.args.name.now.0 c.args.rule.now.0 c.args.alternative _ c.loop-place.invariant c.index-productions-place.result _ c.loop-place-test.true c.index-productions-place.is c.origin_of.ensures
    c.if-is_written.ensures

pub loop-place-smaller : goal.loop-place-smaller
loop-place-smaller c = falls _ _ c.loop-place-test.true

pub returns-then-is_written : goal.returns-then-is_written
returns-then-is_written c =
    found_own c.args.traced.now c.productions-productions.result.now c.loop-place.place c.args.name.now.0 c.args.rule.now.0 c.args.alternative _ c.loop-place.invariant c.index-productions-place.result _ c.loop-place-test.true c.index-productions-place.is c.origin_of.ensures
    c.as_slice.result c.as_slice.ensures.value c.if-is_written.ensures
    ∙ ap (own_plan c.args.name.now.0 c.args.rule.now.0 c.args.alternative 0) c.productions-productions.ensures

pub returns : goal.returns
returns c =
    no_own c.args.traced.now c.productions-productions.result.now c.loop-place.place c.args.name.now.0 c.args.rule.now.0 c.args.alternative _ c.loop-place.invariant c.loop-place-test.false
    ∙ ap (own_plan c.args.name.now.0 c.args.rule.now.0 c.args.alternative 0) c.productions-productions.ensures
