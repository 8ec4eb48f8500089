use Rattle.std.proofs.Common.{◌≡◌, map, drop}
use Rattle.lalrpop_norm_precedence_steps.specs.LevelFaults.{least}
use Rattle.lalrpop_norm_precedence_steps.specs.StatedLevels.{alternative_level_view}
use Rattle.lalrpop_norm_precedence_steps.specs.declared.levels.AlternativeLevel.{AlternativeLevel}
use Rattle.lalrpop_norm_precedence.proofs.precedence.read.least.Given as goal

abbrev pub invariant-loop-i : goal.invariant-loop-i
invariant-loop-i l = l.least ≡ least (map (λ (a : AlternativeLevel). (alternative_level_view a).0) (drop l.i l.levels))
