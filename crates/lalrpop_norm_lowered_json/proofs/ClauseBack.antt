-- Where clauses and bounds back from their forms.
use Rattle.std.proofs.Common.{◌≡◌, List, [], Option, bytes_eq, if◌then◌else◌, codes, false, refl, ap, ap₂}
use Rattle.lalrpop_norm_tree_names.specs.declared.names.Lifetime.{Lifetime}
use Rattle.lalrpop_norm_tree_names.specs.declared.names.TypeParameter.{TypeParameter}
use Rattle.serde_json.specs.Data.{Data, array, object, no_items, item, no_members, member}
use Rattle.lalrpop_norm_tree_parts.specs.Paths.{PathData}
use Rattle.lalrpop_norm_tree_parts.specs.Reprs.{ReprData, tuple, slice, nominal, associated, of_lifetime, reference}
use Rattle.lalrpop_norm_tree_parts.specs.Reprs.{trait_object, function, unit_type, LoweredClause, for_all, has_bound}
use Rattle.lalrpop_norm_tree_parts.specs.Bounds.{BoundParameterData, lifetime_parameter, type_parameter, associated_type, BoundData}
use Rattle.lalrpop_norm_tree_parts.specs.Bounds.{lifetime_bound, function_bound, trait_bound}
use Rattle.lalrpop_norm_json.specs.Json.{list_form, maybe_form}
use Rattle.lalrpop_norm_json.specs.Forms.{type_parameter_form}
use Rattle.lalrpop_norm_lowered_json.specs.LoweredForms.{repr_form, lowered_bound_parameter_form, lowered_bound_form, lowered_clause_form}
use Rattle.lalrpop_norm_lowered_json.proofs.Back.{repr_in, repr_back}
use Rattle.lalrpop_norm_json.proofs.NameBack.{path_back, parameter_in, parameters_back}
use Rattle.lalrpop_norm_json.proofs.ClauseBack.{bound_parameter_in, bound_in, function_of, trait_of}
use Rattle.lalrpop_norm_json.proofs.ListBack.{◌⊛◌, is_null, list_in, list_back, maybe_in, maybe_back}

-- the form of a type is not null
repr_there : (t : ReprData) → is_null (repr_form t) ≡ false
repr_there (tuple ts) = refl
repr_there (slice t) = refl
repr_there (nominal p ts) = refl
repr_there (associated p a) = refl
repr_there (of_lifetime l) = refl
repr_there (reference l m t) = refl
repr_there (trait_object p ts) = refl
repr_there (function fs p ts r) = refl

pub reprs_back : (ts : List ReprData) → list_in repr_in (list_form repr_form ts) ≡ ts
reprs_back = list_back repr_form repr_in repr_back

pub maybe_repr_back : (r : Option ReprData) → maybe_in repr_in (maybe_form repr_form r) ≡ r
maybe_repr_back = maybe_back repr_form repr_in repr_back repr_there

-- ---- bounds

bound_parameter_back : (p : BoundParameterData ReprData) → bound_parameter_in repr_in (lowered_bound_parameter_form p) ≡ p
bound_parameter_back (lifetime_parameter l) = refl
bound_parameter_back (type_parameter t) = ap (λ (u : ReprData). type_parameter u) (repr_back t)
bound_parameter_back (associated_type a t) = ap (λ (u : ReprData). associated_type a u) (repr_back t)

bound_back : (b : BoundData ReprData) → bound_in repr_in (lowered_bound_form b) ≡ b
bound_back (lifetime_bound l) = refl
bound_back (function_bound fs p ts r) =
    ap function_of (parameters_back fs) ⊛ path_back p ⊛ reprs_back ts ⊛ maybe_repr_back r
bound_back (trait_bound fs p ps) =
    ap trait_of (parameters_back fs) ⊛ path_back p ⊛ list_back lowered_bound_parameter_form (bound_parameter_in repr_in) bound_parameter_back ps

-- ---- where clauses

abbrev pub lowered_clause_in : Data → LoweredClause
lowered_clause_in (object (member k (object (member l a (member m b no_members))) no_members)) =
    if bytes_eq k (codes "Forall") then for_all (list_in parameter_in a) (lowered_clause_in b)
    else has_bound (repr_in b) (bound_in repr_in a)
lowered_clause_in _ = has_bound unit_type (lifetime_bound (record { 0 = [] }))

pub lowered_clause_back : (c : LoweredClause) → lowered_clause_in (lowered_clause_form c) ≡ c
lowered_clause_back (for_all fs c) = ap₂ for_all (parameters_back fs) (lowered_clause_back c)
lowered_clause_back (has_bound t b) = ap₂ has_bound (repr_back t) (bound_back b)
