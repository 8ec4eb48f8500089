use Rattle.std.proofs.Common.{◌≡◌, ◌+◌, ◌<◌, ◌∙◌, length, [], ◌∷◌, arith}
use Rattle.std.proofs.lemmas.Option.{slice_get_within}
use Rattle.lalrpop_norm_origins.specs.Origins.{origin_view}
use Rattle.lalrpop_norm_precedence.proofs.GroupLemmas.{none_left}
use Rattle.lalrpop_norm_precedence.proofs.LevelListLemmas.{lists_first, lists_count, pushed_count, held_at, lists_step, lists_last}
use Rattle.lalrpop_norm_precedence.proofs.precedence.lists.grouped.Goals as goal

pub loop-origin-init : goal.loop-origin-init
loop-origin-init c =
    let whole : c.into_iter-origin-iterator.result.rest.items ≡ c.args.origins.items = c.into_iter-origin-iterator.ensures.into_iter_gives.0 in
    record {
      count = rw whole (omega arith);
      groups = lists_count c.in_ok-groups.groups.items c.args.rising.now c.in_ok-groups.ensures;
      value = lists_first c.in_ok-groups.groups.items c.args.rising.now c.args.levels.now c.into_iter-origin-iterator.result.rest.items c.args.origins.items c.in_ok-groups.ensures whole;
    }

pub rank-place-requires-clause-there : goal.rank-place-requires-clause-there
rank-place-requires-clause-there c =
    let count : c.loop-origin.i + length (c.in-Some.origin ∷ c.next.new.self.rest.items) ≡ length c.args.levels.now = rw c.in-Some.ensures.steps.0 at c.loop-origin.invariant.count in
    c.requires.there _ (held_at c.args.levels.now c.loop-origin.i _ (omega arith))

pub push_to-requires : goal.push_to-requires
push_to-requires c =
    let within : c.rank-place.result < length c.args.rising.now = slice_get_within c.args.rising.now c.rank-place.result _ c.rank-place.ensures in
    omega arith

pub loop-origin-preserved : goal.loop-origin-preserved
loop-origin-preserved c =
    let count : c.loop-origin.i + length (c.in-Some.origin ∷ c.next.new.self.rest.items) ≡ length c.args.levels.now = rw c.in-Some.ensures.steps.0 at c.loop-origin.invariant.count in
    record {
      count = omega arith;
      groups = pushed_count c.loop-origin.groups.items c.push_to.new.groups.items c.rank-place.result (origin_view c.in-Some.origin) c.in_ok-push_to.ensures ∙ c.loop-origin.invariant.groups;
      value = lists_step c.loop-origin.groups.items c.push_to.new.groups.items c.args.rising.now c.args.levels.now c.loop-origin.i c.rank-place.result _ c.in-Some.origin
          c.loop-origin.origin-iterator.rest.items c.next.new.self.rest.items _ c.requires.rising (omega arith) c.rank-place.ensures c.in_ok-push_to.ensures
          c.in-Some.ensures.steps.0 c.loop-origin.invariant.value;
    }

pub returns : goal.returns
returns c =
    let none : c.loop-origin.origin-iterator.rest.items ≡ [] =
    none_left c.loop-origin.origin-iterator.rest.items (omega (arith, c.in-None.ensures.steps.0)) in
    lists_last c.loop-origin.groups.items c.args.rising.now _ c.loop-origin.origin-iterator.rest.items _ c.loop-origin.invariant.groups none c.loop-origin.invariant.value
