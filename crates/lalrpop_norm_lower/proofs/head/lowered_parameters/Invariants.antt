use Rattle.std.proofs.Common.{◌≡◌, ◌++◌, drop, map}
use Rattle.lalrpop_norm_tree.specs.Types.{parameter_view}
use Rattle.lalrpop_norm_repr.specs.Lowered.{lowered_parameter_view}
use Rattle.lalrpop_norm_lower.specs.Carried.{lowered_parameter}
use Rattle.lalrpop_norm_lower.proofs.head.lowered_parameters.Given as goal

abbrev pub invariant-loop-parameter : goal.invariant-loop-parameter
invariant-loop-parameter l = map lowered_parameter_view l.lowered.items ++ map lowered_parameter (map parameter_view (drop l.parameter-index l.parameters)) ≡ map lowered_parameter (map parameter_view l.parameters)
