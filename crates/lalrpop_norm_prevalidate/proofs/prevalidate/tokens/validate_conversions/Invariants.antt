use Rattle.std.proofs.Common.{◌≡◌, map, drop}
use Rattle.std.specs.List.{flat_map}
use Rattle.lalrpop_norm_tree.specs.Items.{conversion_view}
use Rattle.lalrpop_norm_prevalidate.specs.GrammarFaults.{conversion_faults}
use Rattle.lalrpop_norm_prevalidate.proofs.prevalidate.tokens.validate_conversions.Given as goal

abbrev pub invariant-loop-conversion : goal.invariant-loop-conversion
invariant-loop-conversion l = flat_map conversion_faults (map conversion_view (drop l.conversion-index l.conversions)) ≡ flat_map conversion_faults (map conversion_view l.conversions)
