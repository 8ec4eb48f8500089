-- What a path with its arguments is seen as.
use Rattle.std.proofs.Common.{◌≡◌, refl, ◌∙◌, Vec, Global}
use Rattle.lalrpop_norm_tree_parts.specs.declared.path.Path.{Path}
use Rattle.lalrpop_norm_tree_parts.specs.declared.lowered.TypeRepr.{TypeRepr}
use Rattle.lalrpop_norm_tree_parts.specs.declared.lowered.TypeRepr.TheVariants as variant
use Rattle.lalrpop_norm_tree_parts.specs.declared.lowered.TypeRepr.TheViews.{roll-NominalTypeRepr}
use Rattle.lalrpop_norm_tree_parts.specs.Paths.{PathData, path_view}
use Rattle.lalrpop_norm_tree_parts.specs.Reprs.{Reprs, nominal, repr_view, reprs_view}
use Rattle.lalrpop_norm_tree_parts.proofs.ReprViews.{view_nominal, view_applied}

pub view_nominal_of : (p : Path) (ts : Vec TypeRepr Global) (q : PathData) (rs : Reprs) → path_view p ≡ q → reprs_view ts.items ≡ rs → repr_view (variant.Nominal (roll-NominalTypeRepr record { path = p; types = ts })) ≡ nominal q rs
view_nominal_of p ts q rs e f = view_nominal _ ∙ rw (view_applied p ts, e, f) refl
