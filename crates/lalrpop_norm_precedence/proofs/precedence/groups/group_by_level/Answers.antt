use Rattle.std.proofs.Common.{◌≡◌, ◌<◌, ◌∙◌, inl, inr, ℕ, length, List, [], ◌∷◌, map, ap, sym, refl, arith}
use Rattle.lalrpop_norm_theory.specs.Rounds.{In}
use Rattle.lalrpop_norm_model.specs.Levels.{Leveled, rising}
use Rattle.lalrpop_norm_precedence.specs.Grouped.{LevelGroup, marked_view, group_view, filled_groups, grouped}
use Rattle.lalrpop_norm_precedence.proofs.GroupLemmas.{pushed_levels, filled_last, levels_first, group_step, group_first, group_within, levels_there, levels_rise, none_left}
use Rattle.lalrpop_norm_precedence.proofs.precedence.groups.group_by_level.Goals as goal

pub loop-alternative-init : goal.loop-alternative-init
loop-alternative-init c =
    let levels : List ℕ = map (λ (a : Leveled). a.level) (map marked_view c.args.marked.items) in
    let same : c.in_ok-levels.levels.items ≡ rising levels = cc (c.in_ok-levels.ensures) in
    let groups : map group_view c.in_ok-groups.groups.items ≡ map (λ l. (l, [])) c.in_ok-levels.levels.items = cc (c.in_ok-groups.ensures) in
    let whole : c.into_iter-alternative-iterator.result.rest.items ≡ c.args.marked.items = cc in
    record {
      rising = levels_rise c.in_ok-levels.levels.items levels same;
      levels = ap (map (λ (g : LevelGroup). g.0)) groups ∙ levels_first c.in_ok-levels.levels.items;
      there = rw whole (levels_there c.in_ok-levels.levels.items (map marked_view c.args.marked.items) same);
      value = rw whole (group_first (map group_view c.in_ok-groups.groups.items) c.in_ok-levels.levels.items (map marked_view c.args.marked.items) groups same);
    }

pub rank-i-requires-clause-there : goal.rank-i-requires-clause-there
rank-i-requires-clause-there c =
    let here : In (marked_view c.in-Some.alternative) (map marked_view c.loop-alternative.alternative-iterator.rest.items) = rw c.in-Some.ensures.steps.0 (inl refl) in
    rw c.deref-in-loop-alternative.ensures.value (c.loop-alternative.invariant.there (marked_view c.in-Some.alternative) here)

pub push_to-requires : goal.push_to-requires
push_to-requires c =
    let found = rw c.deref-in-loop-alternative.ensures.value at c.rank-i.ensures in
    let within : c.rank-i.result < length c.loop-alternative.groups.items =
    group_within c.loop-alternative.groups.items c.in_ok-levels.levels.items c.rank-i.result c.in-Some.alternative.level c.loop-alternative.invariant.levels found in
    omega arith

pub loop-alternative-preserved : goal.loop-alternative-preserved
loop-alternative-preserved c =
    let gs = map group_view c.loop-alternative.groups.items in
    let a = marked_view c.in-Some.alternative in
    let rest = map marked_view c.next.new.self.rest.items in
    let found = rw c.deref-in-loop-alternative.ensures.value at c.rank-i.ensures in
    let before : filled_groups gs (a ∷ rest) ≡ grouped (map marked_view c.args.marked.items) = rw c.in-Some.ensures.steps.0 at c.loop-alternative.invariant.value in
    record {
      rising = c.loop-alternative.invariant.rising;
      levels = ap (map (λ (g : LevelGroup). g.0)) c.in_ok-push_to.ensures ∙ pushed_levels gs c.rank-i.result a ∙ c.loop-alternative.invariant.levels;
      there = λ b i. c.loop-alternative.invariant.there b (rw c.in-Some.ensures.steps.0 (inr i));
      value = ap (λ hs. filled_groups hs rest) c.in_ok-push_to.ensures
          ∙ group_step gs c.rank-i.result a rest c.in_ok-levels.levels.items (grouped (map marked_view c.args.marked.items))
          c.loop-alternative.invariant.rising c.loop-alternative.invariant.levels found before;
    }

pub returns : goal.returns
returns c =
    let none : c.loop-alternative.alternative-iterator.rest.items ≡ [] =
    none_left c.loop-alternative.alternative-iterator.rest.items (omega (arith, c.in-None.ensures.steps.0)) in
    sym (filled_last (map group_view c.loop-alternative.groups.items)) ∙ rw none at c.loop-alternative.invariant.value
