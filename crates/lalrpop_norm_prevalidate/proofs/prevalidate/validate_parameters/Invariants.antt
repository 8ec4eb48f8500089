use Rattle.std.proofs.Common.{◌≡◌, map, drop}
use Rattle.std.specs.List.{flat_map}
use Rattle.lalrpop_norm_tree.specs.Types.{parameter_view}
use Rattle.lalrpop_norm_prevalidate.specs.GrammarFaults.{parameter_faults}
use Rattle.lalrpop_norm_prevalidate.proofs.prevalidate.validate_parameters.Given as goal

abbrev pub invariant-loop-parameter : goal.invariant-loop-parameter
invariant-loop-parameter l = flat_map (parameter_faults l.span) (map parameter_view (drop l.parameter-index l.parameters)) ≡ flat_map (parameter_faults l.span) (map parameter_view l.parameters)
