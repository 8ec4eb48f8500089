use Rattle.std.proofs.Common.{drop, sym}
use Rattle.lalrpop_norm_common.proofs.Slots.{slot_found, slot_missing}
use Rattle.lalrpop_norm_lower_steps.proofs.placeholders.split_at_slot.Goals as goal

pub returns-in-Some : goal.returns-in-Some
returns-in-Some c =
    let w = c.in-Some.ensures.cases in
    cc (slot_found c.args.code.now w.0 (drop w.1 c.args.code.now) w.2.0 w.2.1.split, w.3, w.4)

pub returns-in-None : goal.returns-in-None
returns-in-None c = sym (slot_missing c.args.code.now c.in-None.ensures.cases)
