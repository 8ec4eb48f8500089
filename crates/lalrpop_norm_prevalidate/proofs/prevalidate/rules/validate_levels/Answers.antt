use Rattle.std.proofs.Common.{Some, map, ap, sym, ◌∙◌}
use Rattle.lalrpop_norm_tree.specs.Items.{alternative_view, rule_view}
use Rattle.lalrpop_norm_model.specs.Levels.{has_levels}
use Rattle.lalrpop_norm_precedence.proofs.UnleveledLemmas.{no_level_faults}
use Rattle.lalrpop_norm_prevalidate.proofs.prevalidate.rules.validate_levels.Goals as goal

pub returns-then-not-has_levels : goal.returns-then-not-has_levels
returns-then-not-has_levels c =
    no_level_faults (rule_view c.args.rule.now)
    (sym (c.if-not-has_levels.ensures ∙ ap (λ xs. has_levels (map Some (map alternative_view xs))) c.deref.ensures.value))
