use Rattle.std.proofs.Common.{◌≡◌, map, take}
use Rattle.std.specs.Fn.{CalledAt}
use Rattle.std.specs.Prelude.{flat_map}
use Rattle.lalrpop_norm_tree_parts.specs.Bounds.{bound_parameter_view}
use Rattle.lalrpop_norm_tree_parts.specs.MappedBounds.{bound_parameter_shape, types_in_parameter}
use Rattle.lalrpop_norm_tree_parts.specs.Walks.{Answered}
use Rattle.lalrpop_norm_tree_parts.proofs.bound.map.map_parameters.Given as goal

abbrev pub invariant-loop-parameter : goal.invariant-loop-parameter
invariant-loop-parameter g l =
    goal.F-IsAlwaysCallable g l.f
    × (map (λ p. bound_parameter_shape (bound_parameter_view (λ u. u) p)) l.mapped.items ≡ map (λ p. bound_parameter_shape (bound_parameter_view (λ t. t) p)) (take l.parameter-index l.parameters))
    × Answered (CalledAt g.F.FnMut) l.fn.f (flat_map (λ p. types_in_parameter (bound_parameter_view (λ t. t) p)) (take l.parameter-index l.parameters))
    (flat_map (λ p. types_in_parameter (bound_parameter_view (λ u. u) p)) l.mapped.items) l.f
