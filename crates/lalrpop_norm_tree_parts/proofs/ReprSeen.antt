-- One level of a lowered type as data: what a type of each kind is seen as, over what its parts are seen as.
use Rattle.std.proofs.Common.{◌≡◌, ℕ, Bool, List, Option, Some, None, Box, Vec, Global, option_map, ap, sym, ◌∙◌}
use Rattle.lalrpop_norm_tree_names.specs.declared.names.Lifetime.{Lifetime}
use Rattle.lalrpop_norm_tree_names.specs.declared.names.TypeParameter.{TypeParameter}
use Rattle.lalrpop_norm_tree_parts.specs.declared.path.Path.{Path}
use Rattle.lalrpop_norm_tree_parts.specs.declared.lowered.TypeRepr.{TypeRepr}
use Rattle.lalrpop_norm_tree_parts.specs.declared.lowered.NominalTypeRepr.{NominalTypeRepr}
use Rattle.lalrpop_norm_tree_parts.specs.declared.lowered.TypeRepr.TheVariants as variant
use Rattle.lalrpop_norm_tree_parts.specs.declared.lowered.TypeRepr.TheOpen.{TypeRepr-F, NominalTypeRepr-F}
use Rattle.lalrpop_norm_tree_parts.specs.declared.lowered.TypeRepr.TheViews.{rolls-struct-NominalTypeRepr, rolls-Slice, rolls-Associated, rolls-Lifetime, rolls-Ref, rolls-TraitObject, rolls-Fn}
use Rattle.lalrpop_norm_tree_parts.specs.declared.lowered.TypeRepr.TheFolds.{fold-roll-TypeRepr, fold-roll-NominalTypeRepr}
use Rattle.lalrpop_norm_tree_parts.specs.Paths.{path_view}
use Rattle.lalrpop_norm_tree_parts.specs.Reprs.{ReprData, Applied, slice, associated, of_lifetime, reference, trait_object, function, maybe_repr_of, repr_step, applied_step, repr_view, applied_view, reprs_view}

pub slice_seen : (b : Box TypeRepr Global) → repr_view (variant.Slice b) ≡ slice (repr_view b.value)
slice_seen b = ap repr_view (sym (rolls-Slice b)) ∙ fold-roll-TypeRepr ReprData Applied repr_step applied_step (TypeRepr-F.Slice b)

pub associated_seen : (p a : List ℕ) → repr_view (variant.Associated p a) ≡ associated p a
associated_seen p a = ap repr_view (sym (rolls-Associated p a)) ∙ fold-roll-TypeRepr ReprData Applied repr_step applied_step (TypeRepr-F.Associated p a)

pub lifetime_seen : (l : Lifetime) → repr_view (variant.Lifetime l) ≡ of_lifetime l
lifetime_seen l = ap repr_view (sym (rolls-Lifetime l)) ∙ fold-roll-TypeRepr ReprData Applied repr_step applied_step (TypeRepr-F.Lifetime l)

pub reference_seen : (l : Option Lifetime) (m : Bool) (b : Box TypeRepr Global) → repr_view (variant.Ref l m b) ≡ reference l m (repr_view b.value)
reference_seen l m b = ap repr_view (sym (rolls-Ref l m b)) ∙ fold-roll-TypeRepr ReprData Applied repr_step applied_step (TypeRepr-F.Ref l m b)

pub object_seen : (n : NominalTypeRepr) → repr_view (variant.TraitObject n) ≡ trait_object (applied_view n).0 (applied_view n).1
object_seen n = ap repr_view (sym (rolls-TraitObject n)) ∙ fold-roll-TypeRepr ReprData Applied repr_step applied_step (TypeRepr-F.TraitObject n)

pub function_seen : (fs : Vec TypeParameter Global) (p : Path) (ts : Vec TypeRepr Global) (r : Option (Box TypeRepr Global)) → repr_view (variant.Fn fs p ts r) ≡ function fs.items (path_view p) (reprs_view ts.items) (maybe_repr_of (option_map (λ b. repr_view b.value) r))
function_seen fs p ts None = ap repr_view (sym (rolls-Fn fs p ts None)) ∙ fold-roll-TypeRepr ReprData Applied repr_step applied_step (TypeRepr-F.Fn fs p ts None)
function_seen fs p ts (Some b) = ap repr_view (sym (rolls-Fn fs p ts (Some b))) ∙ fold-roll-TypeRepr ReprData Applied repr_step applied_step (TypeRepr-F.Fn fs p ts (Some b))

pub applied_is : (n : NominalTypeRepr) → applied_view n ≡ (path_view n.path, reprs_view n.types.items)
applied_is n =
    let x : NominalTypeRepr-F TypeRepr NominalTypeRepr = record { path = n.path; types = n.types } in
    ap applied_view (sym (rolls-struct-NominalTypeRepr x)) ∙ fold-roll-NominalTypeRepr ReprData Applied repr_step applied_step x
