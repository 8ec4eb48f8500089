use Rattle.std.proofs.Common.{Vec, Global, ℕ, ◌≡◌, ◌+◌, ◌++◌, ◌∷◌, [], ℕ, take, sym, ap, ◌∙◌}
use Rattle.std.proofs.lemmas.List.{take_more}
use Rattle.lalrpop_norm_tyinfer_steps.specs.declared.stops.Stop.{Stop}
use Rattle.lalrpop_norm_tyinfer_steps.proofs.StopLemmas.{in_read, fits_still, moves_ready, moves_stopped}
use Rattle.lalrpop_norm_tyinfer_steps.proofs.stops.Stops.move_on.Goals.{then-branch+in_ok-push, else-branch}
use Rattle.lalrpop_norm_tyinfer_steps.proofs.stops.Stops.move_on.Goals as goal

pub seek-requires-clause-fits : goal.seek-requires-clause-fits
seek-requires-clause-fits c =
    fits_still c.args.self.now c.loop-stop.self c.stop-item.result c.loop-stop.invariant.typed
    (c.requires.fits c.stop-item.result (in_read c.args.stopped.now c.loop-stop.stop-index c.stop-item.result c.loop-stop-test.true c.stop-item.is))

pub loop-stop-preserved : goal.loop-stop-preserved
loop-stop-preserved c =
    let stopped = c.args.stopped.now in
    let i = c.loop-stop.stop-index in
    let stop = c.stop-item.result in
    let fit = c.requires.fits stop (in_read stopped i stop c.loop-stop-test.true c.stop-item.is) in
    let more : take (i + 1) stopped ≡ take i stopped ++ stop ∷ [] = take_more stopped i stop c.loop-stop-test.true ∙ ap (λ (x : Stop). take i stopped ++ x ∷ []) (sym c.stop-item.is) in
    rw more (elim c.if-branch.branch [
      | then-branch+in_ok-push w ↦
          let items : c.if-branch.ready.items ≡ c.loop-stop.ready.items ++ stop.need.now.rule ∷ [] = ap (λ (v : Vec ℕ Global). v.items) w.ready-is ∙ w.in_ok-push.ensures.items in
          rw items (moves_ready c.args.self.now c.loop-stop.self c.seek.new.self (take i stopped) c.loop-stop.ready.items stop c.in_ok-seek.field-0 c.loop-stop.invariant c.in_ok-seek.ensures fit w.if-branch.true)
      | else-branch w ↦
          let items : c.if-branch.ready.items ≡ c.loop-stop.ready.items = ap (λ (v : Vec ℕ Global). v.items) w.ready-is in
          rw items (moves_stopped c.args.self.now c.loop-stop.self c.seek.new.self (take i stopped) c.loop-stop.ready.items stop c.in_ok-seek.field-0 c.loop-stop.invariant c.in_ok-seek.ensures fit w.if-branch.false)
    ])
