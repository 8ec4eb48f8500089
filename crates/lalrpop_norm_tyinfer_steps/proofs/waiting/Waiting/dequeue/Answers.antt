use Rattle.std.proofs.Common.{◌<◌, length, refl, arith}
use Rattle.lalrpop_norm_theory.proofs.BoolLemmas.{or_left}
use Rattle.lalrpop_norm_tyinfer_steps.specs.Waiting.{is_queued}
use Rattle.lalrpop_norm_tyinfer_steps.proofs.QueueLemmas.{first_queued, first_least, first_leaves, others_rise, none_leaves, false_where}
use Rattle.lalrpop_norm_tyinfer_steps.proofs.waiting.Waiting.dequeue.Goals as goal

pub invariant_of-self : goal.invariant_of-self
invariant_of-self c =
    let queue = c.args.self.now.queue.items in
    let some : 0 < length queue = omega (arith, c.args.self.now.queue.ok.0, c.in-Some.ensures.variant.0 refl) in
    rw c.pop_front.ensures.rest (record { rising = others_rise queue c.args.self.now.rising c.in-Some.first.now some c.in-Some.ensures.lookup })

pub returns-then-first-least-clause-queue : goal.returns-then-first-least-clause-queue
returns-then-first-least-clause-queue c =
    let queue = c.args.self.now.queue.items in
    let some : 0 < length queue = omega (arith, c.args.self.now.queue.ok.0, c.in-Some.ensures.variant.0 refl) in
    rw (c.pop_front.ensures.rest, ← c.if-first-least.true) (first_leaves queue c.args.self.now.rising c.in-Some.first.now some c.in-Some.ensures.lookup)

pub returns-else-first-least-clause-queue : goal.returns-else-first-least-clause-queue
returns-else-first-least-clause-queue c =
    let queue = c.args.self.now.queue.items in
    let some : 0 < length queue = omega (arith, c.args.self.now.queue.ok.0, c.in-Some.ensures.variant.0 refl) in
    let first = c.in-Some.first.now in
    let after = c.requires.least first (or_left _ _ (first_queued queue c.args.self.now.rising first some c.in-Some.ensures.lookup)) in
    none_leaves (is_queued queue) c.args.least (false_where _ (λ there.
    let before = first_least queue c.args.self.now.rising first some c.in-Some.ensures.lookup c.args.least there in
    absurd (omega (arith, after, before, c.if-first-least.false))))
