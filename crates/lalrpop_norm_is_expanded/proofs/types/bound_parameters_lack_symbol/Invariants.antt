use Rattle.std.proofs.Common.{◌≡◌, drop, map}
use Rattle.std.specs.List.{list_all}
use Rattle.lalrpop_norm_tree_parts.specs.Bounds.{bound_parameter_view}
use Rattle.lalrpop_norm_tree.specs.Types.{type_view}
use Rattle.lalrpop_norm_is_expanded.specs.Types.{bound_parameter_lacks_symbol}
use Rattle.lalrpop_norm_is_expanded.proofs.types.bound_parameters_lack_symbol.Given as goal

abbrev pub invariant-loop-parameter : goal.invariant-loop-parameter
invariant-loop-parameter l = list_all bound_parameter_lacks_symbol (map (bound_parameter_view type_view) (drop l.parameter-index l.parameters)) ≡ list_all bound_parameter_lacks_symbol (map (bound_parameter_view type_view) l.parameters)
