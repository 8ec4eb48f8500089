use Rattle.std.proofs.Common.{◌≡◌, ◌∙◌, ◌++◌, List, OnOk, Some, None, true, false, length, map, sym, ap, subst, arith}
use Rattle.std.proofs.lemmas.List.{length-map}
use Rattle.lalrpop_norm_theory.specs.LoweredTrees as theory
use Rattle.lalrpop_norm_tree.specs.Items.{alternative_view, rule_view}
use Rattle.lalrpop_norm_model.specs.Enabled.{all_places}
use Rattle.lalrpop_norm_model.specs.Levels.{has_levels, rising}
use Rattle.lalrpop_norm_precedence_steps.specs.StatedLevels.{alternative_level_view}
use Rattle.lalrpop_norm_origins.specs.Origins.{origin_view, origins_view, origin_lists}
use Rattle.lalrpop_norm_precedence.specs.Handed.{handed_levels}
use Rattle.lalrpop_norm_precedence.specs.LevelLists.{levels_held, stepped_lists, rule_level_lists}
use Rattle.lalrpop_norm_precedence.proofs.GroupLemmas.{levels_rise}
use Rattle.lalrpop_norm_precedence.proofs.RuleLemmas.{handed_count}
use Rattle.lalrpop_norm_precedence.proofs.LevelListLemmas.{in_levels, stepped_are_levels}
use Rattle.lalrpop_norm_precedence.proofs.precedence.lists.add_lists.Goals as goal

pub grouped-requires-clause-rising : goal.grouped-requires-clause-rising
grouped-requires-clause-rising c = levels_rise c.deref-4.result.now (levels_held c.deref-3.result.now) (c.deref-4.ensures.value ∙ c.in_ok-rising.ensures ∙ c.in_ok-set.ensures)

pub grouped-requires-clause-there : goal.grouped-requires-clause-there
grouped-requires-clause-there c =
    in_levels c.deref-4.result.now (levels_held c.deref-5.result.now)
    (c.deref-4.ensures.value ∙ c.in_ok-rising.ensures ∙ c.in_ok-set.ensures ∙ ap (λ xs. rising (levels_held xs)) (c.deref-3.ensures.value ∙ sym c.deref-5.ensures.value))

pub grouped-requires-clause-counted : goal.grouped-requires-clause-counted
grouped-requires-clause-counted c =
    let count : length c.in_ok-levels.levels.items ≡ length c.args.own.items =
    sym (length-map c.in_ok-levels.levels.items alternative_level_view)
    ∙ ap length c.in_ok-levels.ensures
    ∙ handed_count None None (map alternative_view c.deref-2.result.now)
    ∙ ap (λ xs. length (map alternative_view xs)) c.deref-2.ensures.value
    ∙ c.requires
    ∙ length-map c.args.own.items origin_view in
    rw c.deref-5.ensures.value (omega arith)

pub returns : goal.returns
returns c =
    let r = rule_view c.args.rule.now in
    let os = origins_view c.args.own.items in
    let xs = c.deref-5.result.now in
    let leveled : has_levels (all_places r) ≡ true = sym (c.if-not-has_levels.ensures ∙ ap (λ ys. has_levels (map Some (map alternative_view ys))) c.deref.ensures.value) in
    let read : map alternative_level_view xs ≡ handed_levels None None r.alternatives =
    ap (map alternative_level_view) c.deref-5.ensures.value ∙ c.in_ok-levels.ensures ∙ ap (λ ys. handed_levels None None (map alternative_view ys)) c.deref-2.ensures.value in
    let up = c.deref-4.ensures.value ∙ c.in_ok-rising.ensures ∙ c.in_ok-set.ensures ∙ ap (λ ys. rising (levels_held ys)) (c.deref-3.ensures.value ∙ sym c.deref-5.ensures.value) in
    let whole : stepped_lists false (origin_lists c.in_ok-groups.groups.items) ≡ rule_level_lists r os =
    stepped_are_levels r xs c.deref-4.result.now os (origin_lists c.in_ok-groups.groups.items) leveled read up c.in_ok-groups.ensures in
    let P : List (List theory.Origin) → Type 0 = λ oss. OnOk c.push_stepped.result (origin_lists c.push_stepped.new.lists.items ≡ origin_lists c.args.lists.now.items ++ oss) in
    subst P whole c.push_stepped.ensures
