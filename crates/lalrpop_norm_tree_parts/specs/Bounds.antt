-- Where clauses and bounds as plain data, over any type of their types.
use Rattle.std.specs.Prelude.{◌≡◌, ℕ, List, map, Option, Some, None, option_map}
use Rattle.std.specs.List.{AllZip}
use Rattle.lalrpop_norm_tree_names.specs.declared.names.Lifetime.{Lifetime}
use Rattle.lalrpop_norm_tree_names.specs.declared.names.TypeParameter.{TypeParameter}
use Rattle.lalrpop_norm_tree_parts.specs.declared.bound.TypeBoundParameter.{TypeBoundParameter}
use Rattle.lalrpop_norm_tree_parts.specs.declared.bound.TypeBoundParameter.TheVariants as parameter
use Rattle.lalrpop_norm_tree_parts.specs.declared.bound.TypeBound.{TypeBound}
use Rattle.lalrpop_norm_tree_parts.specs.declared.bound.TypeBound.TheVariants as bound
use Rattle.lalrpop_norm_tree_parts.specs.declared.bound.WhereClause.{WhereClause}
use Rattle.lalrpop_norm_tree_parts.specs.declared.bound.WhereClause.TheVariants as clause
use Rattle.lalrpop_norm_tree_parts.specs.Paths.{PathData, path_view}

pub data BoundParameterData (T : Type 0) : Type 0 where
  lifetime_parameter : Lifetime → BoundParameterData T
  type_parameter : T → BoundParameterData T
  associated_type : List ℕ → T → BoundParameterData T

pub data BoundData (T : Type 0) : Type 0 where
  lifetime_bound : Lifetime → BoundData T
  function_bound : List TypeParameter → PathData → List T → Option T → BoundData T
  trait_bound : List TypeParameter → PathData → List (BoundParameterData T) → BoundData T

pub data WhereClauseData (T : Type 0) : Type 0 where
  lifetime_clause : Lifetime → List Lifetime → WhereClauseData T
  type_clause : List TypeParameter → T → List (BoundData T) → WhereClauseData T

-- seen through a view of the types in it
abbrev pub bound_parameter_view : {T V : Type 0} → (T → V) → TypeBoundParameter T → BoundParameterData V
bound_parameter_view f (parameter.Lifetime l) = lifetime_parameter l
bound_parameter_view f (parameter.TypeParameter t) = type_parameter (f t)
bound_parameter_view f (parameter.Associated a t) = associated_type a (f t)

abbrev pub bound_view : {T V : Type 0} → (T → V) → TypeBound T → BoundData V
bound_view f (bound.Lifetime l) = lifetime_bound l
bound_view f (bound.Fn fs p ts r) = function_bound fs.items (path_view p) (map f ts.items) (option_map f r)
bound_view f (bound.Trait fs p ps) = trait_bound fs.items (path_view p) (map (bound_parameter_view f) ps.items)

abbrev pub where_clause_view : {T V : Type 0} → (T → V) → WhereClause T → WhereClauseData V
where_clause_view f (clause.Lifetime l ls) = lifetime_clause l ls.items
where_clause_view f (clause.OfType fs t bs) = type_clause fs.items (f t) (map (bound_view f) bs.items)

-- both are absent, or both are there with R between them
abbrev pub SameOption : {T : Type 0} → (T → T → Type 0) → Option T → Option T → Type 0
SameOption R None None = Unit {0}
SameOption R (Some t) (Some u) = R t u
SameOption R _ _ = ⊥

-- the same shape, with R between the types
abbrev pub SameBoundParameter : {T : Type 0} → (T → T → Type 0) → BoundParameterData T → BoundParameterData T → Type 0
SameBoundParameter R (lifetime_parameter l) (lifetime_parameter m) = l ≡ m
SameBoundParameter R (type_parameter t) (type_parameter u) = R t u
SameBoundParameter R (associated_type a t) (associated_type b u) = (a ≡ b) × R t u
SameBoundParameter R _ _ = ⊥

abbrev pub SameBound : {T : Type 0} → (T → T → Type 0) → BoundData T → BoundData T → Type 0
SameBound R (lifetime_bound l) (lifetime_bound m) = l ≡ m
SameBound R (function_bound fs p ts r) (function_bound gs q us s) = (fs ≡ gs) × (p ≡ q) × AllZip R ts us × SameOption R r s
SameBound R (trait_bound fs p ps) (trait_bound gs q qs) = (fs ≡ gs) × (p ≡ q) × AllZip (SameBoundParameter R) ps qs
SameBound R _ _ = ⊥

abbrev pub SameWhereClause : {T : Type 0} → (T → T → Type 0) → WhereClauseData T → WhereClauseData T → Type 0
SameWhereClause R (lifetime_clause l ls) (lifetime_clause m ms) = (l ≡ m) × (ls ≡ ms)
SameWhereClause R (type_clause fs t bs) (type_clause gs u cs) = (fs ≡ gs) × R t u × AllZip (SameBound R) bs cs
SameWhereClause R _ _ = ⊥
