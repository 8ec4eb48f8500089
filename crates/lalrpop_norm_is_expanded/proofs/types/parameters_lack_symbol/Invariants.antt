use Rattle.std.proofs.Common.{◌≡◌, drop, map}
use Rattle.std.specs.List.{list_all}
use Rattle.lalrpop_norm_tree.specs.Types.{parameter_view}
use Rattle.lalrpop_norm_is_expanded.specs.Types.{parameter_lacks_symbol}
use Rattle.lalrpop_norm_is_expanded.proofs.types.parameters_lack_symbol.Given as goal

abbrev pub invariant-loop-parameter : goal.invariant-loop-parameter
invariant-loop-parameter l = list_all parameter_lacks_symbol (map parameter_view (drop l.parameter-index l.parameters)) ≡ list_all parameter_lacks_symbol (map parameter_view l.parameters)
