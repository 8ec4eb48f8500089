use Rattle.std.proofs.Common.{map, take}
use Rattle.std.specs.List.{AllZip}
use Rattle.lalrpop_norm_tree_parts.specs.Bounds.{bound_parameter_view, SameBoundParameter}
use Rattle.lalrpop_norm_tree_parts.proofs.bound.copy.copy_parameters.Given as goal

abbrev pub invariant-loop-parameter : goal.invariant-loop-parameter
invariant-loop-parameter g l = AllZip (SameBoundParameter g.T.Clone.is_clone) (map (bound_parameter_view (λ t. t)) (take l.parameter-index l.parameters)) (map (bound_parameter_view (λ t. t)) l.copies.items)
