use Rattle.std.proofs.Common.{◌≡◌, map, drop}
use Rattle.lalrpop_norm_tree.specs.Items.{alternative_view}
use Rattle.lalrpop_norm_precedence_steps.specs.StatedLevels.{alternative_level_view}
use Rattle.lalrpop_norm_precedence.specs.Handed.{placed_faults}
use Rattle.lalrpop_norm_precedence.proofs.precedence.read.check_lowest.Given as goal

abbrev pub invariant-loop-i : goal.invariant-loop-i
invariant-loop-i l =
    placed_faults l.lowest (map (λ l. (alternative_level_view l).0) (drop l.i l.levels)) (map alternative_view (drop l.i l.alternatives))
    ≡ placed_faults l.lowest (map (λ l. (alternative_level_view l).0) l.levels) (map alternative_view l.alternatives)
