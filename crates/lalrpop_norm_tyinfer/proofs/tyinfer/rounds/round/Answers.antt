use Rattle.std.proofs.Common.{◌<◌, length, map, sym, subst, arith}
use Rattle.std.proofs.lemmas.List.{length-map}
use Rattle.lalrpop_norm_tyinfer_steps.specs.Visits.{rule_seen}
use Rattle.lalrpop_norm_tyinfer_steps.proofs.NumberedRounds.{number_of, still_numbered}
use Rattle.lalrpop_norm_tyinfer_steps.proofs.RoundLemmas.{midway_next, midway_passes, rule_there}
use Rattle.lalrpop_norm_tyinfer_steps.specs.Numbered.{numbered_table}
use Rattle.std.proofs.lemmas.Result.{IfOk-from_err}
use Rattle.lalrpop_norm_tyinfer.proofs.RoundStarts.{midway_first, waits_next, fewer_left}
use Rattle.lalrpop_norm_tyinfer.proofs.tyinfer.rounds.round.Goals as goal

pub step-requires-clause-within : goal.step-requires-clause-within
step-requires-clause-within c =
    subst (λ n. c.in-Some.place < n) (sym c.loop-place.invariant.midway.watches.count) (c.loop-place.invariant.midway.within_now c.in-Some.place c.in-Some.ensures.there)

pub step-requires-clause-number : goal.step-requires-clause-number
step-requires-clause-number c =
    let rules = c.args.inference.now.rules.now in
    let long = length-map rules rule_seen in
    let low = c.loop-place.invariant.midway.within_now c.in-Some.place c.in-Some.ensures.there in
    let lt : c.in-Some.place < length rules = omega arith in
    number_of c.loop-place.types (map rule_seen rules) c.in-Some.place (rule_seen c.index-rules-place.result) c.loop-place.invariant.numbered c.requires.distinct
    (rule_there rules c.in-Some.place c.index-rules-place.result lt c.index-rules-place.is)

pub step-requires-clause-told : goal.step-requires-clause-told
step-requires-clause-told c =
    let rules = c.args.inference.now.rules.now in
    let long = length-map rules rule_seen in
    let low = c.loop-place.invariant.midway.within_now c.in-Some.place c.in-Some.ensures.there in
    let lt : c.in-Some.place < length rules = omega arith in
    c.loop-place.invariant.midway.watches.tells c.in-Some.place (rule_seen c.index-rules-place.result) (rule_there rules c.in-Some.place c.index-rules-place.result lt c.index-rules-place.is)

pub loop-place-preserved : goal.loop-place-preserved
loop-place-preserved c =
    let rules = c.args.inference.now.rules.now in
    let long = length-map rules rule_seen in
    let low = c.loop-place.invariant.midway.within_now c.in-Some.place c.in-Some.ensures.there in
    let lt : c.in-Some.place < length rules = omega arith in
    let there = rule_there rules c.in-Some.place c.index-rules-place.result lt c.index-rules-place.is in
    let woken = rw c.deref.ensures.value at c.in_ok-wake.ensures in
    record {
      midway = midway_next _ _ _ _ _ _ _ _ _ _ _ _ _ _ _ _ c.requires.distinct c.loop-place.invariant.midway c.in-Some.ensures there c.in_ok-ready.ensures.visits woken;
      numbered = still_numbered c.loop-place.types c.step.new.types (map rule_seen rules) c.in_ok-ready.ensures.numbers c.loop-place.invariant.numbered;
    }

pub returns-clause-passes : goal.returns-clause-passes
returns-clause-passes c =
    let none = rw c.in_default.is at c.take_least.ensures in
    midway_passes _ _ _ _ _ _ _ _ c.loop-place.invariant.midway none

pub loop-place-init : goal.loop-place-init
loop-place-init c = record {
  midway = midway_first c.args.inference.now.parameters.now (numbered_table c.args.types.now) (map rule_seen c.args.inference.now.rules.now) c.args.stops.now c.args.now.now c.new-next.result c.requires.watches c.requires.waits c.new-next.ensures;
  numbered = c.requires.numbered;
}

pub bounds-rules-place : goal.bounds-rules-place
bounds-rules-place c =
    subst (λ n. c.in-Some.place < n) (length-map c.args.inference.now.rules.now rule_seen) (c.loop-place.invariant.midway.within_now c.in-Some.place c.in-Some.ensures.there)

pub loop-place-smaller : goal.loop-place-smaller
loop-place-smaller c =
    let low = c.loop-place.invariant.midway.ahead c.in-Some.place c.in-Some.ensures.there in
    fewer_left (length c.args.inference.now.rules.now) c.loop-place.from c.in-Some.place low
    (subst (λ n. c.in-Some.place < n) (length-map c.args.inference.now.rules.now rule_seen) (c.loop-place.invariant.midway.within_now c.in-Some.place c.in-Some.ensures.there))

pub step-requires-clause-sound : goal.step-requires-clause-sound
step-requires-clause-sound c = c.loop-place.invariant.midway.watches.sound

pub returns-clause-between : goal.returns-clause-between
returns-clause-between c =
    let none = rw c.in_default.is at c.take_least.ensures in
    record {
      distinct = c.requires.distinct;
      numbered = c.loop-place.invariant.numbered;
      watches = c.loop-place.invariant.midway.watches;
      waits = waits_next _ _ _ _ _ _ _ _ c.loop-place.invariant.midway none;
    }

pub returns-in_err-ready : goal.returns-in_err-ready
returns-in_err-ready c = record {
  between = IfOk-from_err _ _ c.from_residual.ensures.0;
  passes = IfOk-from_err _ _ c.from_residual.ensures.0;
}

pub returns-in_err-wake : goal.returns-in_err-wake
returns-in_err-wake c = record {
  between = IfOk-from_err _ _ c.from_residual-in_err-wake.ensures.0;
  passes = IfOk-from_err _ _ c.from_residual-in_err-wake.ensures.0;
}
