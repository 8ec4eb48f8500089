use Rattle.std.proofs.Common.{◌≡◌, ◌&&◌, true, Some, None, length, map, ap, sym, ◌∙◌}
use Rattle.std.specs.Prelude.{nat_lt}
use Rattle.lalrpop_norm_tree.specs.Items.{alternative_view, rule_view}
use Rattle.lalrpop_norm_model.specs.Enabled.{all_places}
use Rattle.lalrpop_norm_model.specs.Levels.{has_levels, with_levels, levels_of}
use Rattle.lalrpop_norm_precedence_steps.specs.declared.levels.AlternativeLevel.{AlternativeLevel}
use Rattle.lalrpop_norm_precedence_steps.specs.StatedLevels.{alternative_level_view, differ}
use Rattle.lalrpop_norm_precedence.specs.Handed.{handed_levels}
use Rattle.lalrpop_norm_precedence.proofs.SeveralLemmas.{several_read}
use Rattle.lalrpop_norm_precedence.proofs.precedence.read.has_several_levels.Goals as goal

pub returns : goal.returns
returns c =
    let r = rule_view c.args.rule.now in
    let read : map alternative_level_view c.in_ok-levels.levels.items ≡ handed_levels None None r.alternatives = cc (c.in_ok-levels.ensures) in
    let leveled : has_levels (all_places r) ≡ true =
    sym (c.if-not-has_levels.ensures ∙ ap (λ xs. has_levels (map Some (map alternative_view xs))) c.deref.ensures.value) in
    c.differ.ensures ∙ ap (λ xs. differ (map (λ (l : AlternativeLevel). (alternative_level_view l).0) xs)) c.deref-3.ensures.value
    ∙ several_read r c.in_ok-levels.levels.items read
    ∙ sym (ap (λ b. b && nat_lt 1 (length (levels_of (with_levels (all_places r))))) leveled)
