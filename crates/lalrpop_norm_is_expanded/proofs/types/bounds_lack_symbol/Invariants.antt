use Rattle.std.proofs.Common.{◌≡◌, drop, map}
use Rattle.std.specs.List.{list_all}
use Rattle.lalrpop_norm_tree_parts.specs.Bounds.{bound_view}
use Rattle.lalrpop_norm_tree.specs.Types.{type_view}
use Rattle.lalrpop_norm_is_expanded.specs.Types.{bound_lacks_symbol}
use Rattle.lalrpop_norm_is_expanded.proofs.types.bounds_lack_symbol.Given as goal

abbrev pub invariant-loop-bound : goal.invariant-loop-bound
invariant-loop-bound l = list_all bound_lacks_symbol (map (bound_view type_view) (drop l.bound-index l.bounds)) ≡ list_all bound_lacks_symbol (map (bound_view type_view) l.bounds)
