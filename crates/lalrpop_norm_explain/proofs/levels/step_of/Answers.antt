use Rattle.std.proofs.Common.{ap, ◌∙◌}
use borrow.Author.Count.{falls}
use Rattle.lalrpop_norm_explain.specs.Plans.{first_step}
use Rattle.lalrpop_norm_explain.proofs.WaySteps.{no_step, next_step, found_step}
use Rattle.lalrpop_norm_explain.proofs.levels.step_of.Goals as goal

pub loop-place-preserved : goal.loop-place-preserved
loop-place-preserved c =
    next_step c.args.traced.now c.productions-productions.result.now c.loop-place.place _ c.loop-place.invariant c.index-productions-place.result _ _ c.loop-place-test.true c.index-productions-place.is c.origin_of.ensures
    c.deref.ensures.value c.in_default.ensures

pub loop-place-smaller : goal.loop-place-smaller
loop-place-smaller c = falls _ _ c.loop-place-test.true

pub returns-in-Some : goal.returns-in-Some
returns-in-Some c =
    found_step c.args.traced.now c.productions-productions.result.now c.loop-place.place _ c.loop-place.invariant c.index-productions-place.result _ _ c.loop-place-test.true c.index-productions-place.is c.origin_of.ensures
    c.deref.ensures.value c.in-Some.lower.now.0 c.in-Some.ensures
    ∙ ap (first_step 0) c.productions-productions.ensures

pub returns : goal.returns
returns c = no_step c.args.traced.now c.productions-productions.result.now c.loop-place.place _ c.loop-place.invariant c.loop-place-test.false ∙ ap (first_step 0) c.productions-productions.ensures
