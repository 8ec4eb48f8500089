use Rattle.std.proofs.Common.{rules, ◌∙◌, ◌+◌, ◌∷◌, arith, sym, ap, drop}
use Rattle.lalrpop_norm_faults.proofs.FaultLemmas.{at_drop_item}
use Rattle.lalrpop_norm_lower_steps.proofs.SlotLemmas.{shorter, one_more_slot, in_order_turn, in_order_end}
use Rattle.lalrpop_norm_lower_steps.proofs.placeholders.push_in_order.Goals as goal

pub loop-before-smaller : goal.loop-before-smaller
loop-before-smaller c = shorter c.loop-before.rest.now (c.in-Some.before.now, c.in-Some.after.now) (sym c.in-Some.ensures)

pub returns : goal.returns
returns c = in_order_end _ _ _ c.loop-before.rest.now _ (sym c.in_default.ensures) c.in_ok-push_str-3.ensures.bytes c.loop-before.invariant.2

pub bounds-names-number : goal.bounds-names-number
bounds-names-number c = omega (arith, one_more_slot c.loop-before.rest.now (c.in-Some.before.now, c.in-Some.after.now) (sym c.in-Some.ensures), c.loop-before.invariant.1)

pub loop-before-preserved : goal.loop-before-preserved
loop-before-preserved c = (
  search rules,
  omega (arith, one_more_slot c.loop-before.rest.now (c.in-Some.before.now, c.in-Some.after.now) (sym c.in-Some.ensures), c.loop-before.invariant.1),
  in_order_turn _ _ _ _ c.loop-before.rest.now _ _ _ (c.in-Some.before.now, c.in-Some.after.now) (sym c.in-Some.ensures) (at_drop_item (λ ys. ys) c.args.names.now c.loop-before.number c.index-names-number.result (omega (arith, one_more_slot c.loop-before.rest.now (c.in-Some.before.now, c.in-Some.after.now) (sym c.in-Some.ensures), c.loop-before.invariant.1)) c.index-names-number.is ∙ ap (λ name. name ∷ drop (c.loop-before.number + 1) c.args.names.now) (sym c.as_str.ensures.text)) c.in_ok-push_str.ensures.bytes c.in_ok-push_str-2.ensures.bytes c.loop-before.invariant.2,
)
