-- Bounds back from their forms, over a function back for the types in them; where clauses of trees.
use Rattle.std.proofs.Common.{◌≡◌, List, [], Option, bytes_eq, if◌then◌else◌, codes, refl, ap, ap₂}
use Rattle.serde_json.specs.Data.{Data, array, object, no_items, item, no_members, member}
use Rattle.lalrpop_norm_tree_names.specs.declared.names.Lifetime.{Lifetime}
use Rattle.lalrpop_norm_tree_names.specs.declared.names.TypeParameter.{TypeParameter}
use Rattle.lalrpop_norm_tree_parts.specs.Paths.{PathData}
use Rattle.lalrpop_norm_tree_parts.specs.Bounds.{BoundParameterData, lifetime_parameter, type_parameter, associated_type, BoundData}
use Rattle.lalrpop_norm_tree_parts.specs.Bounds.{lifetime_bound, function_bound, trait_bound, WhereClauseData, lifetime_clause, type_clause}
use Rattle.lalrpop_norm_tree.specs.Types.{TypeData}
use Rattle.lalrpop_norm_json.specs.Forms.{lifetime_form}
use Rattle.lalrpop_norm_json.specs.TypeForms.{type_form, bound_parameter_form, bound_form, where_clause_form}
use Rattle.lalrpop_norm_json.proofs.ListBack.{◌⊛◌, list_in, list_back, maybe_in}
use Rattle.lalrpop_norm_json.proofs.NameBack.{text_in, lifetime_in, path_in, path_back, parameter_in, parameters_back}
use Rattle.lalrpop_norm_json.proofs.TypeBack.{type_in, type_back, maybe_type_back}

-- ---- bounds

abbrev associated_in : {T : Type 0} → (Data → T) → Data → BoundParameterData T
associated_in g (array (item a (item t no_items))) = associated_type (text_in a) (g t)
associated_in g _ = lifetime_parameter (record { 0 = [] })

abbrev pub bound_parameter_in : {T : Type 0} → (Data → T) → Data → BoundParameterData T
bound_parameter_in g (object (member k d no_members)) =
    if bytes_eq k (codes "Lifetime") then lifetime_parameter (lifetime_in d)
    else if bytes_eq k (codes "TypeParameter") then type_parameter (g d)
    else associated_in g d
bound_parameter_in g _ = lifetime_parameter (record { 0 = [] })

abbrev function_bound_in : {T : Type 0} → (Data → T) → Data → BoundData T
function_bound_in g (object (member k fs (member l ts (member m p (member n r no_members))))) =
    function_bound (list_in parameter_in fs) (path_in p) (list_in g ts) (maybe_in g r)
function_bound_in g _ = lifetime_bound (record { 0 = [] })

abbrev trait_bound_in : {T : Type 0} → (Data → T) → Data → BoundData T
trait_bound_in g (object (member k fs (member l ps (member m p no_members)))) =
    trait_bound (list_in parameter_in fs) (path_in p) (list_in (bound_parameter_in g) ps)
trait_bound_in g _ = lifetime_bound (record { 0 = [] })

abbrev pub bound_in : {T : Type 0} → (Data → T) → Data → BoundData T
bound_in g (object (member k d no_members)) =
    if bytes_eq k (codes "Lifetime") then lifetime_bound (lifetime_in d)
    else if bytes_eq k (codes "Fn") then function_bound_in g d
    else trait_bound_in g d
bound_in g _ = lifetime_bound (record { 0 = [] })

-- the parts of a bound, one by one
abbrev pub function_of : {T : Type 0} → List TypeParameter → PathData → List T → Option T → BoundData T
function_of fs p ts r = function_bound fs p ts r

abbrev pub trait_of : {T : Type 0} → List TypeParameter → PathData → List (BoundParameterData T) → BoundData T
trait_of fs p ps = trait_bound fs p ps

bound_parameter_back : (p : BoundParameterData TypeData) → bound_parameter_in type_in (bound_parameter_form p) ≡ p
bound_parameter_back (lifetime_parameter l) = refl
bound_parameter_back (type_parameter t) = ap (λ (u : TypeData). type_parameter u) (type_back t)
bound_parameter_back (associated_type a t) = ap (λ (u : TypeData). associated_type a u) (type_back t)

bound_back : (b : BoundData TypeData) → bound_in type_in (bound_form b) ≡ b
bound_back (lifetime_bound l) = refl
bound_back (function_bound fs p ts r) =
    ap function_of (parameters_back fs) ⊛ path_back p ⊛ list_back type_form type_in type_back ts ⊛ maybe_type_back r
bound_back (trait_bound fs p ps) =
    ap trait_of (parameters_back fs) ⊛ path_back p ⊛ list_back bound_parameter_form (bound_parameter_in type_in) bound_parameter_back ps

-- ---- where clauses

abbrev lifetime_clause_in : Data → WhereClauseData TypeData
lifetime_clause_in (object (member k ls (member l m no_members))) = lifetime_clause (lifetime_in m) (list_in lifetime_in ls)
lifetime_clause_in _ = lifetime_clause (record { 0 = [] }) []

abbrev type_clause_in : Data → WhereClauseData TypeData
type_clause_in (object (member k bs (member l fs (member m t no_members)))) =
    type_clause (list_in parameter_in fs) (type_in t) (list_in (bound_in type_in) bs)
type_clause_in _ = lifetime_clause (record { 0 = [] }) []

abbrev pub where_clause_in : Data → WhereClauseData TypeData
where_clause_in (object (member k d no_members)) = if bytes_eq k (codes "Lifetime") then lifetime_clause_in d else type_clause_in d
where_clause_in _ = lifetime_clause (record { 0 = [] }) []

abbrev clause_of : List TypeParameter → TypeData → List (BoundData TypeData) → WhereClauseData TypeData
clause_of fs t bs = type_clause fs t bs

pub where_clause_back : (c : WhereClauseData TypeData) → where_clause_in (where_clause_form c) ≡ c
where_clause_back (lifetime_clause l ls) =
    ap (λ (ms : List Lifetime). lifetime_clause l ms) (list_back lifetime_form lifetime_in (λ m. refl) ls)
where_clause_back (type_clause fs t bs) =
    ap clause_of (parameters_back fs) ⊛ type_back t ⊛ list_back bound_form (bound_in type_in) bound_back bs
