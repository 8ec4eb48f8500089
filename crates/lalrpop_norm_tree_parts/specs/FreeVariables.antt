-- The parameters that a lowered type means by its names and lifetimes.
use Rattle.std.specs.Prelude.{Bool, false, not, List, [], ◌∷◌}
use Rattle.std.specs.Prelude.{◌++◌, map, filter, option_to_list, if◌then◌else◌, bytes_eq}
use Rattle.std.specs.List.{list_any}
use Rattle.lalrpop_norm_tree_names.specs.declared.names.TypeParameter.{TypeParameter}
use Rattle.lalrpop_norm_tree_names.specs.declared.names.TypeParameter.TheVariants as parameter
use Rattle.lalrpop_norm_tree_parts.specs.Accessors.{single_name}
use Rattle.lalrpop_norm_tree_parts.specs.Paths.{PathData}
use Rattle.lalrpop_norm_tree_parts.specs.Reprs.{ReprData, Reprs, MaybeRepr, tuple, slice, nominal, associated, of_lifetime}
use Rattle.lalrpop_norm_tree_parts.specs.Reprs.{reference, trait_object, function, no_reprs, repr_and, no_repr, returns}

abbrev pub same_parameter : TypeParameter → TypeParameter → Bool
same_parameter (parameter.Lifetime l) (parameter.Lifetime m) = bytes_eq l.0 m.0
same_parameter (parameter.Id a) (parameter.Id b) = bytes_eq a b
same_parameter _ _ = false

abbrev pub is_parameter_among : List TypeParameter → TypeParameter → Bool
is_parameter_among ps p = list_any (λ q. same_parameter q p) ps

-- the name of a path of one part that is not absolute
abbrev pub met_in_path : PathData → List TypeParameter
met_in_path p = map parameter.Id (option_to_list (single_name p))

-- what a type may mean a parameter by, in reading order, less what its `for<..>` bind
abbrev mutual
  pub met_in_type : ReprData → List TypeParameter
  met_in_type (tuple ts) = met_in_all ts
  met_in_type (slice t) = met_in_type t
  met_in_type (nominal p ts) = met_in_path p ++ met_in_all ts
  met_in_type (associated a b) = parameter.Id a ∷ []
  met_in_type (of_lifetime l) = parameter.Lifetime l ∷ []
  met_in_type (reference l m t) = map parameter.Lifetime (option_to_list l) ++ met_in_type t
  met_in_type (trait_object p ts) = met_in_path p ++ met_in_all ts
  met_in_type (function fs p ts r) =
      filter (λ q. not (is_parameter_among fs q)) (met_in_path p ++ (met_in_all ts ++ met_in_return r))

  pub met_in_all : Reprs → List TypeParameter
  met_in_all no_reprs = []
  met_in_all (repr_and t ts) = met_in_type t ++ met_in_all ts

  pub met_in_return : MaybeRepr → List TypeParameter
  met_in_return no_repr = []
  met_in_return (returns t) = met_in_type t

-- xs, and after them what is made of each of ys, where nothing in the list is it yet
abbrev pub with_new : {A B : Type 0} → (B → A → Bool) → (B → A) → List A → List B → List A
with_new is made xs [] = xs
with_new is made xs (y ∷ ys) = with_new is made (if list_any (is y) xs then xs else xs ++ made y ∷ []) ys

-- with each of ps that is not there yet
abbrev pub with_parameters : List TypeParameter → List TypeParameter → List TypeParameter
with_parameters all ps = with_new (λ p q. same_parameter q p) (λ p. p) all ps

-- the listed parameters that occur free in the type, each once
abbrev pub free_in : List TypeParameter → ReprData → List TypeParameter
free_in listed t = with_parameters [] (filter (is_parameter_among listed) (met_in_type t))
