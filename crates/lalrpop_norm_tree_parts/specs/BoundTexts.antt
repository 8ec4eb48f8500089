-- The texts of bounds and of written where clauses, from the texts of their types.
use Rattle.std.specs.Prelude.{ℕ, List, ◌++◌, map, Option, Some, codes}
use Rattle.std.specs.Fmt.{◌++?◌}
use Rattle.lalrpop_norm_tree_parts.specs.Bounds.{BoundParameterData, lifetime_parameter, type_parameter, associated_type, BoundData}
use Rattle.lalrpop_norm_tree_parts.specs.Bounds.{lifetime_bound, function_bound, trait_bound, WhereClauseData, lifetime_clause}
use Rattle.lalrpop_norm_tree_parts.specs.Bounds.{type_clause}
use Rattle.lalrpop_norm_tree_parts.specs.KnownTexts.{joined_known, angled_known, bounds_known, returned_known}
use Rattle.lalrpop_norm_tree_parts.specs.TypeTexts.{path_text, forall_text}

-- `'a`, `T` or `Item = T`
abbrev pub bound_parameter_text : BoundParameterData (Option (List ℕ)) → Option (List ℕ)
bound_parameter_text (lifetime_parameter l) = Some l.0
bound_parameter_text (type_parameter t) = t
bound_parameter_text (associated_type a t) = Some a ++? Some (codes " = ") ++? t

-- `'a`, `for<'a> P(A, B) -> R` or `for<'a> P<A, B>`
abbrev pub bound_text : BoundData (Option (List ℕ)) → Option (List ℕ)
bound_text (lifetime_bound l) = Some l.0
bound_text (function_bound fs p ts r) =
    Some (forall_text fs ++ path_text p) ++? (Some (codes "(") ++? joined_known (codes ", ") ts ++? Some
    (codes ")")) ++? returned_known r
bound_text (trait_bound fs p ps) = Some (forall_text fs ++ path_text p) ++? angled_known (map bound_parameter_text ps)

-- `'a: 'b + 'c`, or `for<'a> T:  B + C`, with two blanks behind that colon
abbrev pub where_clause_text : WhereClauseData (Option (List ℕ)) → Option (List ℕ)
where_clause_text (lifetime_clause l ls) = Some l.0 ++? Some (codes ":") ++? bounds_known (map (λ m. Some m.0) ls)
where_clause_text (type_clause fs t bs) = Some (forall_text fs) ++? t ++? Some (codes ": ") ++? bounds_known (map bound_text bs)
