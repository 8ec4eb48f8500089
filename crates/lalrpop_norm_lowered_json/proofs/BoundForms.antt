-- The forms of bounds, where the views of their types are part of what is written.
use Rattle.std.proofs.Common.{◌≡◌, [], ◌∷◌, codes, Option, Some, None, Vec, Global, refl}
use Rattle.std.proofs.lemmas.Simd.{map-map}
use Rattle.lalrpop_norm_json.specs.Json.{fields, variant, list_form, maybe_form}
use Rattle.lalrpop_norm_json.specs.Forms.{path_form, type_parameter_form}
use Rattle.lalrpop_norm_tree_names.specs.declared.names.TypeParameter.{TypeParameter}
use Rattle.lalrpop_norm_tree_parts.specs.declared.path.Path.{Path}
use Rattle.lalrpop_norm_tree_parts.specs.declared.bound.TypeBoundParameter.{TypeBoundParameter}
use Rattle.lalrpop_norm_tree_parts.specs.declared.bound.TypeBound.TheVariants as bound
use Rattle.lalrpop_norm_tree_parts.specs.declared.lowered.TypeRepr.{TypeRepr}
use Rattle.lalrpop_norm_tree_parts.specs.Paths.{path_view}
use Rattle.lalrpop_norm_tree_parts.specs.Reprs.{repr_view}
use Rattle.lalrpop_norm_tree_parts.specs.Bounds.{bound_view, bound_parameter_view}
use Rattle.lalrpop_norm_lowered_json.specs.LoweredForms.{repr_form, lowered_bound_form, lowered_bound_parameter_form}

pub function_bound_form : (fs : Vec TypeParameter Global) (p : Path) (ts : Vec TypeRepr Global) (r : Option TypeRepr) → lowered_bound_form (bound_view repr_view (bound.Fn fs p ts r)) ≡
    variant (codes "Fn") (fields ((codes "forall", list_form type_parameter_form fs.items) ∷ (codes "parameters", list_form (λ t. repr_form (repr_view t)) ts.items)
    ∷ (codes "path", path_form (path_view p)) ∷ (codes "ret", maybe_form (λ t. repr_form (repr_view t)) r) ∷ []))
function_bound_form fs p ts None = rw (map-map repr_form repr_view ts.items) refl
function_bound_form fs p ts (Some t) = rw (map-map repr_form repr_view ts.items) refl

pub trait_bound_form : (fs : Vec TypeParameter Global) (p : Path) (ps : Vec (TypeBoundParameter TypeRepr) Global) → lowered_bound_form (bound_view repr_view (bound.Trait fs p ps)) ≡
    variant (codes "Trait") (fields ((codes "forall", list_form type_parameter_form fs.items)
    ∷ (codes "parameters", list_form (λ q. lowered_bound_parameter_form (bound_parameter_view repr_view q)) ps.items) ∷ (codes "path", path_form (path_view p)) ∷ []))
trait_bound_form fs p ps = rw (map-map lowered_bound_parameter_form (bound_parameter_view repr_view) ps.items) refl
