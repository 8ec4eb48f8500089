use Rattle.std.proofs.Common.{◌≡◌, map, drop}
use Rattle.std.specs.Prelude.{nat_eq, not}
use Rattle.std.specs.List.{list_any}
use Rattle.lalrpop_norm_precedence_steps.specs.StatedLevels.{alternative_level_view}
use Rattle.lalrpop_norm_precedence_steps.specs.declared.levels.AlternativeLevel.{AlternativeLevel}
use Rattle.lalrpop_norm_precedence_steps.proofs.levels.any_other.Given as goal

abbrev pub invariant-loop-level : goal.invariant-loop-level
invariant-loop-level l =
    list_any (λ m. not (nat_eq m l.first)) (map (λ (a : AlternativeLevel). (alternative_level_view a).0) (drop l.level-index l.levels))
    ≡ list_any (λ m. not (nat_eq m l.first)) (map (λ (a : AlternativeLevel). (alternative_level_view a).0) l.levels)
