use Rattle.std.proofs.Common.{◌≡◌, ◌++◌, None, map, drop, option_map}
use Rattle.lalrpop_norm_tree.specs.Items.{alternative_view}
use Rattle.lalrpop_norm_precedence_steps.specs.Sides.{side_of}
use Rattle.lalrpop_norm_precedence_steps.specs.StatedLevels.{alternative_level_view}
use Rattle.lalrpop_norm_precedence.specs.Handed.{handed_levels}
use Rattle.lalrpop_norm_precedence.proofs.precedence.read.hand_on.Given as goal

abbrev pub invariant-loop-alternative : goal.invariant-loop-alternative
invariant-loop-alternative l =
    map alternative_level_view l.levels.items
    ++ handed_levels l.level (option_map side_of l.side) (map alternative_view (drop l.alternative-index l.alternatives))
    ≡ handed_levels None None (map alternative_view l.alternatives)
