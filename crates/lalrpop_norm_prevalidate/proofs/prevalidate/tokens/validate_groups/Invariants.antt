use Rattle.std.proofs.Common.{◌≡◌, map, drop}
use Rattle.std.specs.List.{flat_map}
use Rattle.lalrpop_norm_tree.specs.Items.{match_contents_view}
use Rattle.lalrpop_norm_prevalidate.specs.GrammarFaults.{mapping_faults}
use Rattle.lalrpop_norm_prevalidate.proofs.prevalidate.tokens.validate_groups.Given as goal

abbrev pub invariant-loop-group : goal.invariant-loop-group
invariant-loop-group l = flat_map (flat_map mapping_faults) (map match_contents_view (drop l.group-index l.groups)) ≡ flat_map (flat_map mapping_faults) (map match_contents_view l.groups)
