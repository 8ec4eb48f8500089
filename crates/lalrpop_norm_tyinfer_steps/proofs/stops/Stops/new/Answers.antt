use Rattle.std.proofs.Common.{sym, ◌∙◌, arith}
use Rattle.lalrpop_norm_tyinfer_steps.proofs.StopLemmas.{begins_empty}
use Rattle.lalrpop_norm_tyinfer_steps.proofs.stops.Stops.new.Goals as goal

pub returns : goal.returns
returns c =
    let h = c.loop-number.invariant in
    begins_empty _ c.args.count (h.lists ∙ sym h.flags) (omega arith) h.none h.empty
