use Rattle.std.proofs.Common.{◌≡◌, ◌+◌, ◌++◌, ◌∷◌, [], take, sym, ap, ◌∙◌, refl}
use Rattle.std.proofs.lemmas.List.{take_more}
use Rattle.lalrpop_norm_tyinfer_steps.specs.declared.needs.Need.{Need}
use Rattle.lalrpop_norm_tyinfer_steps.proofs.StopLemmas.{beginnings_none, beginnings_more}
use Rattle.lalrpop_norm_tyinfer_steps.proofs.stops.at_beginnings.Goals as goal

pub loop-need-init : goal.loop-need-init
loop-need-init c = rw c.in_ok-stops.ensures.items beginnings_none

pub loop-need-preserved : goal.loop-need-preserved
loop-need-preserved c =
    let needs = c.args.needs.now in
    let i = c.loop-need.need-index in
    let need = c.need-item.result in
    let more : take (i + 1) needs ≡ take i needs ++ need ∷ [] = take_more needs i need c.loop-need-test.true ∙ ap (λ (x : Need). take i needs ++ x ∷ []) (sym c.need-item.is) in
    rw (more, c.in_ok-push.ensures.items) (beginnings_more (take i needs) need c.loop-need.stops.items _ refl refl c.loop-need.invariant)
