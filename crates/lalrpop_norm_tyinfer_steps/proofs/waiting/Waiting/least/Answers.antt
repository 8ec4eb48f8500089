use Rattle.std.proofs.Common.{◌<◌, length, refl, arith}
use Rattle.lalrpop_norm_tyinfer_steps.proofs.QueueLemmas.{both_least, queue_least}
use Rattle.lalrpop_norm_tyinfer_steps.proofs.waiting.Waiting.least.Goals as goal

pub returns-in-Some-Some : goal.returns-in-Some-Some
returns-in-Some-Some c =
    let told = c.in-Some-Some.ensures in
    let some : 0 < length c.args.self.now.queue.items = omega (arith, c.args.self.now.queue.ok.0, told.variant.0 refl) in
    rw c.min.ensures (both_least c.args.self.now c.in-Some-Some.first.now some told.lookup c.in-Some-Some.other.now c.in-Some-Some.ensures'.member c.in-Some-Some.ensures'.least)

pub returns-in-Some-None : goal.returns-in-Some-None
returns-in-Some-None c =
    let told = c.in-Some-None.ensures in
    let some : 0 < length c.args.self.now.queue.items = omega (arith, c.args.self.now.queue.ok.0, told.variant.0 refl) in
    queue_least c.args.self.now c.in-Some-None.first.now some told.lookup c.in-Some-None.ensures'.variant.1
