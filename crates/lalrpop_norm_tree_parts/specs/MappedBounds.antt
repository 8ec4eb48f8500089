-- Bounds whose types are put through a function, and the types of bounds in reading order.
use Rattle.std.specs.Prelude.{List, [], ◌∷◌, ◌++◌, map, flat_map, option_map, option_to_list}
use Rattle.lalrpop_norm_tree_parts.specs.Bounds.{BoundParameterData, lifetime_parameter, type_parameter, associated_type, BoundData}
use Rattle.lalrpop_norm_tree_parts.specs.Bounds.{lifetime_bound, function_bound, trait_bound}

abbrev pub mapped_bound_parameter : {T V : Type 0} → (T → V) → BoundParameterData T → BoundParameterData V
mapped_bound_parameter f (lifetime_parameter l) = lifetime_parameter l
mapped_bound_parameter f (type_parameter t) = type_parameter (f t)
mapped_bound_parameter f (associated_type a t) = associated_type a (f t)

abbrev pub mapped_bound : {T V : Type 0} → (T → V) → BoundData T → BoundData V
mapped_bound f (lifetime_bound l) = lifetime_bound l
mapped_bound f (function_bound fs p ts r) = function_bound fs p (map f ts) (option_map f r)
mapped_bound f (trait_bound fs p ps) = trait_bound fs p (map (mapped_bound_parameter f) ps)

-- what is left of it without its types
abbrev pub bound_parameter_shape : {T : Type 0} → BoundParameterData T → BoundParameterData (Unit {0})
bound_parameter_shape p = mapped_bound_parameter (λ t. tt) p

abbrev pub bound_shape : {T : Type 0} → BoundData T → BoundData (Unit {0})
bound_shape b = mapped_bound (λ t. tt) b

abbrev pub types_in_parameter : {T : Type 0} → BoundParameterData T → List T
types_in_parameter (lifetime_parameter l) = []
types_in_parameter (type_parameter t) = t ∷ []
types_in_parameter (associated_type a t) = t ∷ []

-- its types from left to right, a return type last
abbrev pub types_in_bound : {T : Type 0} → BoundData T → List T
types_in_bound (lifetime_bound l) = []
types_in_bound (function_bound fs p ts r) = ts ++ option_to_list r
types_in_bound (trait_bound fs p ps) = flat_map types_in_parameter ps
