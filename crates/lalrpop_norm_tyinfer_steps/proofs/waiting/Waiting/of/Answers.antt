use Rattle.std.proofs.Common.{take, get_or}
use Rattle.std.proofs.lemmas.List.{take_more}
use Rattle.lalrpop_norm_tyinfer_steps.proofs.WaitingLemmas.{added_all, added_only}
use Rattle.lalrpop_norm_tyinfer_steps.proofs.waiting.Waiting.«of».Goals as goal

pub loop-place-preserved : goal.loop-place-preserved
loop-place-preserved c =
    let places = c.args.places.now in
    let i = c.loop-place.place-index in
    rw (take_more places i 0 c.loop-place-test.true) (record {
      all = added_all c.loop-place.waiting c.add.new.self (take i places) (get_or places i 0) c.in_ok-add.ensures c.loop-place.invariant.all;
      only = added_only c.loop-place.waiting c.add.new.self (take i places) (get_or places i 0) c.in_ok-add.ensures c.loop-place.invariant.only;
    })
