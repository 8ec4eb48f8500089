-- What each lowered type is seen as.
use Rattle.std.proofs.Common.{◌≡◌, ◌==◌, ◌↔◌, false, IsTrue, List, [], ◌∷◌, length, refl, ap, sym, ◌∙◌, Vec, Global}
use Rattle.std.proofs.Common.{arith, ℕ}
use Rattle.std.proofs.lemmas.Bool.Decides.{nat_tests}
use Rattle.lalrpop_norm_tree_parts.specs.declared.path.Path.{Path}
use Rattle.lalrpop_norm_tree_parts.specs.declared.lowered.TypeRepr.{TypeRepr}
use Rattle.lalrpop_norm_tree_parts.specs.declared.lowered.NominalTypeRepr.{NominalTypeRepr}
use Rattle.lalrpop_norm_tree_parts.specs.declared.lowered.TypeRepr.TheVariants as variant
use Rattle.lalrpop_norm_tree_parts.specs.declared.lowered.TypeRepr.TheOpen.{TypeRepr-F}
use Rattle.lalrpop_norm_tree_parts.specs.declared.lowered.TypeRepr.TheViews.{rolls-Tuple, rolls-Nominal, roll-NominalTypeRepr}
use Rattle.lalrpop_norm_tree_parts.specs.declared.lowered.TypeRepr.TheFolds.{fold-roll-TypeRepr, fold-roll-NominalTypeRepr}
use Rattle.lalrpop_norm_tree_parts.specs.Reprs.{ReprData, Applied, tuple, nominal, no_reprs, repr_step, applied_step, repr_view, applied_view, reprs_view, named_repr}
use Rattle.lalrpop_norm_tree_parts.specs.Paths.{path_view}

pub view_tuple : (ts : Vec TypeRepr Global) → repr_view (variant.Tuple ts) ≡ tuple (reprs_view ts.items)
view_tuple ts = ap repr_view (sym (rolls-Tuple ts)) ∙ fold-roll-TypeRepr ReprData Applied repr_step applied_step (TypeRepr-F.Tuple ts)

no_types : (ts : List TypeRepr) → IsTrue (length ts == 0) ↔ (tuple (reprs_view ts) ≡ tuple no_reprs)
no_types [] = (λ h. refl, λ e. refl)
no_types (t ∷ ts) = (λ h. absurd (grind (arith, nat_tests)), λ e. cc)

pub unit_or_not : (t : TypeRepr) (ts : Vec TypeRepr Global) → t ≡ variant.Tuple ts → IsTrue (length ts.items == 0) ↔ (repr_view t ≡ tuple no_reprs)
unit_or_not t ts e = rw (e, view_tuple ts) (no_types ts.items)

pub view_nominal : (n : NominalTypeRepr) → repr_view (variant.Nominal n) ≡ nominal (applied_view n).0 (applied_view n).1
view_nominal n = ap repr_view (sym (rolls-Nominal n)) ∙ fold-roll-TypeRepr ReprData Applied repr_step applied_step (TypeRepr-F.Nominal n)

pub view_applied : (p : Path) (ts : Vec TypeRepr Global) → applied_view (roll-NominalTypeRepr record { path = p; types = ts }) ≡ (path_view p, reprs_view ts.items)
view_applied p ts = fold-roll-NominalTypeRepr ReprData Applied repr_step applied_step record { path = p; types = ts }

pub view_named : (p : Path) (ts : Vec TypeRepr Global) (name : List ℕ) → path_view p ≡ record { absolute = false; ids = name ∷ [] } → ts.items ≡ [] → repr_view (variant.Nominal (roll-NominalTypeRepr record { path = p; types = ts })) ≡ named_repr name
view_named p ts name e f = view_nominal _ ∙ rw (view_applied p ts, e, f) refl
