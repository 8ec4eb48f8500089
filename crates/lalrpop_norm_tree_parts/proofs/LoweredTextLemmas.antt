-- What a bound over lowered types prints: its text is always known.
use Rattle.std.proofs.Common.{◌≡◌, ℕ, List, [], ◌∷◌, ◌++◌, Option, Some, None, map, codes, refl, sym, ap, append_assoc}
use Rattle.std.specs.Fmt.{◌++?◌}
use Rattle.lalrpop_norm_tree_parts.specs.declared.bound.TypeBoundParameter.{TypeBoundParameter}
use Rattle.lalrpop_norm_tree_parts.specs.declared.bound.TypeBoundParameter.TheVariants as parameter
use Rattle.lalrpop_norm_tree_parts.specs.declared.bound.TypeBound.{TypeBound}
use Rattle.lalrpop_norm_tree_parts.specs.declared.bound.TypeBound.TheVariants as bound
use Rattle.lalrpop_norm_tree_parts.specs.declared.lowered.TypeRepr.{TypeRepr}
use Rattle.lalrpop_norm_tree_parts.specs.Bounds.{bound_parameter_view, bound_view}
use Rattle.lalrpop_norm_tree_parts.specs.BoundTexts.{bound_parameter_text, bound_text}
use Rattle.lalrpop_norm_tree_parts.specs.LoweredTexts.{lowered_bound_parameter_text, lowered_bound_text}
use Rattle.lalrpop_norm_tree_parts.specs.Paths.{path_view}
use Rattle.lalrpop_norm_tree_parts.specs.Reprs.{repr_view}
use Rattle.lalrpop_norm_tree_names.specs.Texts.{joined}
use Rattle.lalrpop_norm_tree_parts.specs.TypeTexts.{forall_text, path_text, repr_text}
use Rattle.lalrpop_norm_tree_parts.proofs.KnownTextLemmas.{joined_known-all, angled_known-all}

-- what a lowered type prints
abbrev printed : TypeRepr → Option (List ℕ)
printed t = Some (repr_text (repr_view t))

associated_text : (a t : List ℕ) → Some a ++? Some (codes " = ") ++? Some t ≡ Some (a ++ codes " = " ++ t)
associated_text a t = ap Some (sym (append_assoc a (codes " = ") t))

function_text : (h ts r : List ℕ) → Some h ++? (Some (codes "(") ++? Some ts ++? Some (codes ")")) ++? Some r ≡ Some (h ++ (codes "(" ++ ts ++ codes ")") ++ r)
function_text h ts r = ap Some (sym (append_assoc h (codes "(" ++ ts ++ codes ")") r))

parameter_printed : (p : TypeBoundParameter TypeRepr) → bound_parameter_text (bound_parameter_view printed p) ≡ Some (lowered_bound_parameter_text (bound_parameter_view repr_view p))
parameter_printed (parameter.Lifetime l) = refl
parameter_printed (parameter.TypeParameter t) = refl
parameter_printed (parameter.Associated a t) = associated_text a (repr_text (repr_view t))

parameters_printed : (ps : List (TypeBoundParameter TypeRepr)) → map bound_parameter_text (map (bound_parameter_view printed) ps) ≡ map (λ p. Some (lowered_bound_parameter_text p)) (map (bound_parameter_view repr_view) ps)
parameters_printed [] = refl
parameters_printed (p ∷ ps) = let first = parameter_printed p in let rest = parameters_printed ps in cc

types_printed : (ts : List TypeRepr) → map printed ts ≡ map (λ t. Some (repr_text t)) (map repr_view ts)
types_printed [] = refl
types_printed (t ∷ ts) = ap (λ us. printed t ∷ us) (types_printed ts)

pub bound_printed : (b : TypeBound TypeRepr) → bound_text (bound_view printed b) ≡ Some (lowered_bound_text (bound_view repr_view b))
bound_printed (bound.Lifetime l) = refl
bound_printed (bound.Fn fs p ts None) =
    rw (types_printed ts.items, joined_known-all repr_text (codes ", ") (map repr_view ts.items)) (function_text (forall_text fs.items ++ path_text (path_view p)) (joined (codes ", ") (map repr_text (map repr_view ts.items))) [])
bound_printed (bound.Fn fs p ts (Some t)) =
    rw (types_printed ts.items, joined_known-all repr_text (codes ", ") (map repr_view ts.items)) (function_text (forall_text fs.items ++ path_text (path_view p)) (joined (codes ", ") (map repr_text (map repr_view ts.items))) (codes " -> " ++ repr_text (repr_view t)))
bound_printed (bound.Trait fs p ps) = rw (parameters_printed ps.items, angled_known-all lowered_bound_parameter_text (map (bound_parameter_view repr_view) ps.items))
