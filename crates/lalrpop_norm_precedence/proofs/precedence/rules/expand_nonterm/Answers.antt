use Rattle.std.proofs.Common.{◌≡◌, ◌∙◌, length, [], ◌∷◌, map, Some, true, false, ap, ap₂, sym, refl, arith}
use Rattle.lalrpop_norm_tree.specs.Items.{alternative_view, rule_view}
use Rattle.lalrpop_norm_model.specs.Enabled.{all_places}
use Rattle.lalrpop_norm_model.specs.Levels.{has_levels}
use Rattle.lalrpop_norm_precedence_steps.specs.LevelFaults.{levels_and_sides}
use Rattle.lalrpop_norm_precedence_steps.specs.StatedLevels.{alternative_level_view}
use Rattle.lalrpop_norm_precedence.specs.Grouped.{group_view, marked_with, grouped}
use Rattle.lalrpop_norm_precedence.proofs.LevelNameLemmas.{no_level_rules}
use Rattle.lalrpop_norm_precedence.proofs.UnleveledLemmas.{no_level_faults}
use Rattle.lalrpop_norm_precedence.proofs.RuleLemmas.{levels_count, level_rules_made}
use Rattle.lalrpop_norm_precedence.proofs.precedence.rules.expand_nonterm.Goals as goal

pub mark-requires : goal.mark-requires
mark-requires c =
    let read : map alternative_level_view c.in_ok-levels.levels.items ≡ levels_and_sides (rule_view c.args.rule) = c.in_ok-levels.ensures.1 in
    let count : length c.in_ok-levels.levels.items ≡ length c.args.rule.alternatives.items =
    levels_count (rule_view c.args.rule) c.args.rule.alternatives.items c.in_ok-levels.levels.items refl read in
    rw (c.deref-2.ensures.value, c.replace-alternatives.ensures.value) (omega arith)

pub returns-then-not-has_levels : goal.returns-then-not-has_levels
returns-then-not-has_levels c =
    let r = rule_view c.args.rule in
    let bare : has_levels (all_places r) ≡ false =
    sym (c.if-not-has_levels.ensures ∙ ap (λ xs. has_levels (map Some (map alternative_view xs))) c.deref.ensures.value) in
    let alone : c.push.new.self.items ≡ c.args.rule ∷ [] = rw c.in_ok-alone.ensures.items at c.in_ok-push.ensures.items in
    let same : map rule_view c.push.new.self.items ≡ r ∷ [] = rw alone refl in
    (no_level_faults r bare, same ∙ sym (no_level_rules r bare))

pub returns : goal.returns
returns c =
    let r = rule_view c.args.rule in
    let head = rule_view (record c.args.rule { alternatives = c.replace-alternatives.new.dest }) in
    let gs = map group_view c.in_ok-groups.groups.items in
    let bare : c.replace-alternatives.new.dest.items ≡ [] = cc in
    let emptied : head ≡ record r { alternatives = [] } = ap (λ xs. record r { alternatives = map alternative_view xs }) bare in
    let read : map alternative_level_view c.in_ok-levels.levels.items ≡ levels_and_sides r = c.in_ok-levels.ensures.1 in
    let all : gs ≡ grouped (marked_with (levels_and_sides r) r.alternatives) =
    c.in_ok-groups.ensures
    ∙ ap grouped (c.in_ok-marked.ensures
    ∙ ap₂ marked_with (ap (map alternative_level_view) c.deref-2.ensures.value ∙ read) (ap (λ v. map alternative_view v.items) c.replace-alternatives.ensures.value)) in
    let leveled : has_levels (all_places r) ≡ true =
    sym (c.if-not-has_levels.ensures ∙ ap (λ xs. has_levels (map Some (map alternative_view xs))) c.deref.ensures.value) in
    (c.in_ok-levels.ensures.0, c.in_ok-rules.ensures ∙ level_rules_made r head gs emptied all leveled)
