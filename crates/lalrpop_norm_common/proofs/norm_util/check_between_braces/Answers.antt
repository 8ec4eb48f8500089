use Rattle.std.proofs.Common.{◌≡◌, Some, drop, ap}
use Rattle.lalrpop_norm_common.specs.Braces.{around_slot, presence_around}
use Rattle.lalrpop_norm_common.proofs.Slots.{slot_found, slot_missing}
use Rattle.lalrpop_norm_common.proofs.norm_util.check_between_braces.Goals as goal

pub returns-in-Some : goal.returns-in-Some
returns-in-Some c =
    let w = c.in-Some.ensures.cases in
    let e : around_slot c.args.action.now ≡ Some (c.in-Some.before.now, c.in-Some.after.now) = cc (slot_found c.args.action.now w.0 (drop w.1 c.args.action.now) w.2.0 w.2.1.split, w.3, w.4) in
    let f = ap presence_around e in
    cc (f, c.presence_between.ensures, c.trim.ensures.trim, c.trim-in-Some.ensures.trim)

pub returns-in-None : goal.returns-in-None
returns-in-None c = let e = ap presence_around (slot_missing c.args.action.now c.in-None.ensures.cases) in cc
