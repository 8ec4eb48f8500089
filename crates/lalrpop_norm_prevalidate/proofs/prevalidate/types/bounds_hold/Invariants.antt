use Rattle.std.proofs.Common.{◌≡◌, map, drop}
use Rattle.std.specs.List.{list_any}
use Rattle.lalrpop_norm_tree.specs.Types.{type_view}
use Rattle.lalrpop_norm_tree_parts.specs.Bounds.{bound_view}
use Rattle.lalrpop_norm_prevalidate.specs.TypeFaults.{bound_holds}
use Rattle.lalrpop_norm_prevalidate.proofs.prevalidate.types.bounds_hold.Given as goal

abbrev pub invariant-loop-bound : goal.invariant-loop-bound
invariant-loop-bound l = list_any bound_holds (map (bound_view type_view) (drop l.bound-index l.bounds)) ≡ list_any bound_holds (map (bound_view type_view) l.bounds)
