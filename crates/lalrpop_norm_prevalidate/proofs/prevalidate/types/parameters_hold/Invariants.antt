use Rattle.std.proofs.Common.{◌≡◌, map, drop}
use Rattle.std.specs.List.{list_any}
use Rattle.lalrpop_norm_tree.specs.Types.{type_view}
use Rattle.lalrpop_norm_tree_parts.specs.Bounds.{bound_parameter_view}
use Rattle.lalrpop_norm_prevalidate.specs.TypeFaults.{parameter_holds}
use Rattle.lalrpop_norm_prevalidate.proofs.prevalidate.types.parameters_hold.Given as goal

abbrev pub invariant-loop-parameter : goal.invariant-loop-parameter
invariant-loop-parameter l = list_any parameter_holds (map (bound_parameter_view type_view) (drop l.parameter-index l.parameters)) ≡ list_any parameter_holds (map (bound_parameter_view type_view) l.parameters)
