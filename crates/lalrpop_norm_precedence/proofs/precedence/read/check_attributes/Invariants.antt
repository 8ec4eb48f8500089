use Rattle.std.proofs.Common.{◌≡◌, map, drop}
use Rattle.std.specs.List.{flat_map}
use Rattle.lalrpop_norm_tree.specs.Items.{alternative_view}
use Rattle.lalrpop_norm_precedence_steps.specs.LevelFaults.{level_attribute_faults}
use Rattle.lalrpop_norm_precedence.proofs.precedence.read.check_attributes.Given as goal

abbrev pub invariant-loop-alternative : goal.invariant-loop-alternative
invariant-loop-alternative l =
    flat_map level_attribute_faults (map alternative_view (drop l.alternative-index l.alternatives))
    ≡ flat_map level_attribute_faults (map alternative_view l.alternatives)
