use Rattle.std.proofs.Common.{◌≡◌, drop}
use Rattle.std.specs.List.{flat_map}
use Rattle.lalrpop_norm_prevalidate.specs.GrammarFaults.{mapping_faults}
use Rattle.lalrpop_norm_prevalidate.proofs.prevalidate.tokens.validate_mappings.Given as goal

abbrev pub invariant-loop-item : goal.invariant-loop-item
invariant-loop-item l = flat_map mapping_faults (drop l.item-index l.items) ≡ flat_map mapping_faults l.items
