-- The texts of lowered where clauses and of their bounds, as bytes.
use Rattle.std.specs.Prelude.{ℕ, List, ◌++◌, map, codes}
use Rattle.lalrpop_norm_tree_names.specs.declared.names.TypeParameter.{TypeParameter}
use Rattle.lalrpop_norm_tree_parts.specs.Bounds.{BoundParameterData, lifetime_parameter, type_parameter, associated_type, BoundData}
use Rattle.lalrpop_norm_tree_parts.specs.Bounds.{lifetime_bound, function_bound, trait_bound}
use Rattle.lalrpop_norm_tree_parts.specs.Reprs.{ReprData, maybe_repr_of, LoweredClause, for_all, has_bound}
use Rattle.lalrpop_norm_tree_names.specs.Texts.{joined, type_parameter_text}
use Rattle.lalrpop_norm_tree_parts.specs.TypeTexts.{path_text, forall_text, angled, repr_text, return_text}

-- `'a`, `T` or `Item = T`
abbrev pub lowered_bound_parameter_text : BoundParameterData ReprData → List ℕ
lowered_bound_parameter_text (lifetime_parameter l) = l.0
lowered_bound_parameter_text (type_parameter t) = repr_text t
lowered_bound_parameter_text (associated_type a t) = a ++ codes " = " ++ repr_text t

-- `'a`, `for<'a> P(A, B) -> R` or `for<'a> P<A, B>`
abbrev pub lowered_bound_text : BoundData ReprData → List ℕ
lowered_bound_text (lifetime_bound l) = l.0
lowered_bound_text (function_bound fs p ts r) =
    forall_text fs ++ path_text p ++ (codes "(" ++ joined (codes ", ") (map repr_text ts) ++ codes ")")
    ++ return_text (maybe_repr_of r)
lowered_bound_text (trait_bound fs p ps) = forall_text fs ++ path_text p ++ angled (map lowered_bound_parameter_text ps)

-- `for<'a, T> `, also where there is no parameter
abbrev pub binder_text : List TypeParameter → List ℕ
binder_text ps = codes "for<" ++ joined (codes ", ") (map type_parameter_text ps) ++ codes "> "

-- `for<'a> C` or `S: B`
abbrev pub lowered_clause_text : LoweredClause → List ℕ
lowered_clause_text (for_all fs c) = binder_text fs ++ lowered_clause_text c
lowered_clause_text (has_bound t b) = repr_text t ++ codes ": " ++ lowered_bound_text b
