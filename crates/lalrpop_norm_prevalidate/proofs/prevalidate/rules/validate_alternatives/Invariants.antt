use Rattle.std.proofs.Common.{◌≡◌, map, drop}
use Rattle.std.specs.List.{flat_map}
use Rattle.lalrpop_norm_tree.specs.Items.{alternative_view}
use Rattle.lalrpop_norm_prevalidate.specs.AlternativeFaults.{alternative_faults}
use Rattle.lalrpop_norm_prevalidate.proofs.prevalidate.rules.validate_alternatives.Given as goal

abbrev pub invariant-loop-alternative : goal.invariant-loop-alternative
invariant-loop-alternative l = flat_map (alternative_faults l.around) (map alternative_view (drop l.alternative-index l.alternatives)) ≡ flat_map (alternative_faults l.around) (map alternative_view l.alternatives)
