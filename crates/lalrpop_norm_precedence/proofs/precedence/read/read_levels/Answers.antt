use Rattle.std.proofs.Common.{◌≡◌, [], None, map, length, refl, sym, ◌∙◌, arith}
use Rattle.std.specs.Prelude.{unwrap_or}
use Rattle.std.specs.List.{flat_map}
use Rattle.lalrpop_norm_tree.specs.Items.{rule_view}
use Rattle.lalrpop_norm_precedence_steps.specs.declared.levels.AlternativeLevel.{AlternativeLevel}
use Rattle.lalrpop_norm_precedence_steps.specs.LevelFaults.{missing_level_faults, level_attribute_faults, least, level_faults}
use Rattle.lalrpop_norm_precedence_steps.specs.StatedLevels.{alternative_level_view}
use Rattle.lalrpop_norm_precedence.specs.Handed.{handed_levels, placed_faults}
use Rattle.lalrpop_norm_precedence.proofs.ReadLemmas.{levels_read, level_faults_read, exit_last}
use Rattle.lalrpop_norm_precedence.proofs.RuleLemmas.{levels_count}
use Rattle.lalrpop_norm_precedence.proofs.precedence.read.read_levels.Goals as goal

pub check_lowest-requires : goal.check_lowest-requires
check_lowest-requires c =
    let r = rule_view c.args.rule.now in
    let read : map alternative_level_view c.in_ok-levels.levels.items ≡ handed_levels None None r.alternatives = cc (c.in_ok-levels.ensures) in
    let count : length c.in_ok-levels.levels.items ≡ length c.args.rule.now.alternatives.items =
    levels_count r c.args.rule.now.alternatives.items c.in_ok-levels.levels.items refl (read ∙ sym (levels_read r)) in
    rw (c.deref-5.ensures.value, c.deref-6.ensures.value) (omega arith)

pub returns-in_err-check_lowest : goal.returns-in_err-check_lowest
returns-in_err-check_lowest c =
    let r = rule_view c.args.rule.now in
    let first : missing_level_faults r.alternatives ≡ [] = cc (c.in_ok-check_first.ensures) in
    let each : flat_map level_attribute_faults r.alternatives ≡ [] = cc (c.in_ok-check_attributes.ensures) in
    let read : map alternative_level_view c.in_ok-levels.levels.items ≡ handed_levels None None r.alternatives = cc (c.in_ok-levels.ensures) in
    let lowest : c.unwrap_or-lowest.result ≡ unwrap_or (least (map (λ (l : AlternativeLevel). (alternative_level_view l).0) c.in_ok-levels.levels.items)) 0 = cc in
    exit_last _ c.in_err-check_lowest.field-0.0
    (placed_faults c.unwrap_or-lowest.result (map (λ (l : AlternativeLevel). (alternative_level_view l).0) c.in_ok-levels.levels.items) r.alternatives) (level_faults r) _
    c.from_residual-in_err-check_lowest.ensures.1 (rw (c.deref-5.ensures.value, c.deref-6.ensures.value) at c.in_err-check_lowest.ensures)
    (level_faults_read r c.in_ok-levels.levels.items c.unwrap_or-lowest.result first each read lowest)

pub returns : goal.returns
returns c =
    let r = rule_view c.args.rule.now in
    let first : missing_level_faults r.alternatives ≡ [] = cc (c.in_ok-check_first.ensures) in
    let each : flat_map level_attribute_faults r.alternatives ≡ [] = cc (c.in_ok-check_attributes.ensures) in
    let read : map alternative_level_view c.in_ok-levels.levels.items ≡ handed_levels None None r.alternatives = cc (c.in_ok-levels.ensures) in
    let lowest : c.unwrap_or-lowest.result ≡ unwrap_or (least (map (λ (l : AlternativeLevel). (alternative_level_view l).0) c.in_ok-levels.levels.items)) 0 = cc in
    let none : placed_faults c.unwrap_or-lowest.result (map (λ (l : AlternativeLevel). (alternative_level_view l).0) c.in_ok-levels.levels.items) r.alternatives ≡ [] = cc (c.in_ok-check_lowest.ensures) in
    (level_faults_read r c.in_ok-levels.levels.items c.unwrap_or-lowest.result first each read lowest ∙ none, read ∙ sym (levels_read r))
