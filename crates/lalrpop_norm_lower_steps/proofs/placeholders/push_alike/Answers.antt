use Rattle.std.proofs.Common.{rules, sym}
use Rattle.lalrpop_norm_lower_steps.proofs.SlotLemmas.{shorter, alike_turn, alike_end}
use Rattle.lalrpop_norm_lower_steps.proofs.placeholders.push_alike.Goals as goal

pub loop-before-smaller : goal.loop-before-smaller
loop-before-smaller c = shorter c.loop-before.rest.now (c.in-Some.before.now, c.in-Some.after.now) (sym c.in-Some.ensures)

pub loop-before-preserved : goal.loop-before-preserved
loop-before-preserved c = (
  search rules,
  alike_turn _ _ _ _ _ c.loop-before.rest.now (c.in-Some.before.now, c.in-Some.after.now) (sym c.in-Some.ensures) c.in_ok-push_str.ensures.bytes c.in_ok-push_names.ensures c.loop-before.invariant.1,
)

pub returns : goal.returns
returns c = alike_end _ _ _ _ c.loop-before.rest.now (sym c.in_default.ensures) c.in_ok-push_str-2.ensures.bytes c.loop-before.invariant.1
