use Rattle.std.proofs.Common.{rules, ◌∙◌, ◌+◌, arith, sym, ap}
use Rattle.lalrpop_norm_model.specs.LoweringFaults.{slots}
use Rattle.lalrpop_norm_lower_steps.proofs.SlotLemmas.{shorter, one_more_slot, no_slot, few_slots}
use Rattle.lalrpop_norm_lower_steps.proofs.placeholders.slots.Goals as goal

pub overflow_add-count : goal.overflow_add-count
overflow_add-count c =
    let here = one_more_slot c.loop-after.rest.now (c.in-Some.field-0-0.now, c.in-Some.after.now) (sym c.in-Some.ensures) in
    let all = few_slots c.args.code.now in
    let so_far = c.loop-after.invariant.1 in
    grind arith

pub loop-after-smaller : goal.loop-after-smaller
loop-after-smaller c = shorter c.loop-after.rest.now (c.in-Some.field-0-0.now, c.in-Some.after.now) (sym c.in-Some.ensures)

pub loop-after-preserved : goal.loop-after-preserved
loop-after-preserved c = (
  search rules,
  omega (arith, one_more_slot c.loop-after.rest.now (c.in-Some.field-0-0.now, c.in-Some.after.now) (sym c.in-Some.ensures), c.loop-after.invariant.1),
)

pub returns : goal.returns
returns c = omega (arith, no_slot c.loop-after.rest.now (sym c.in_default.ensures), c.loop-after.invariant.1)
