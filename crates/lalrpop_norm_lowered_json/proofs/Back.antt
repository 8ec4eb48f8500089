-- What the data of a type says: the type again. So two types of one data are the same.
use Rattle.std.proofs.Common.{◌≡◌, ℕ, List, [], ◌∷◌, Bool, false, Option, Some, None, bytes_eq, if◌then◌else◌, codes, map, refl, ap, ap₂, sym, ◌∙◌}
use Rattle.lalrpop_norm_tree_names.specs.declared.names.Lifetime.{Lifetime}
use Rattle.lalrpop_norm_tree_names.specs.declared.names.TypeParameter.{TypeParameter}
use Rattle.lalrpop_norm_tree_names.specs.declared.names.TypeParameter.TheVariants as parameter
use Rattle.serde_json.specs.Data.{Data, boolean, string, array, object, Items, no_items, item, Members, no_members, member}
use Rattle.serde_json.specs.View.{items_of}
use Rattle.lalrpop_norm_tree_parts.specs.Paths.{PathData}
use Rattle.lalrpop_norm_tree_parts.specs.Reprs.{ReprData, tuple, slice, nominal, associated, of_lifetime, reference}
use Rattle.lalrpop_norm_tree_parts.specs.Reprs.{trait_object, function, Reprs, no_reprs, repr_and, MaybeRepr, no_repr, returns, unit_type}
use Rattle.lalrpop_norm_json.specs.Forms.{type_parameter_form, path_form}
use Rattle.lalrpop_norm_json.proofs.ListBack.{items_in}
use Rattle.lalrpop_norm_json.proofs.NameBack.{truth_in, path_in, path_back, parameter_in, parameters_back}
use Rattle.lalrpop_norm_lowered_json.specs.LoweredForms.{repr_form, reprs_form, maybe_repr_form}

abbrev maybe_lifetime_in : Data → Option Lifetime
maybe_lifetime_in (string s) = Some (record { 0 = s })
maybe_lifetime_in _ = None

abbrev applied_in : List ℕ → PathData → Reprs → ReprData
applied_in k p ts = if bytes_eq k (codes "Nominal") then nominal p ts else trait_object p ts

abbrev mutual
  pub repr_in : Data → ReprData
  repr_in (object (member k d no_members)) = repr_under k d
  repr_in _ = unit_type

  reprs_in : Items → Reprs
  reprs_in no_items = no_reprs
  reprs_in (item d ds) = repr_and (repr_in d) (reprs_in ds)

  maybe_repr_in : Data → MaybeRepr
  maybe_repr_in (object (member k d no_members)) = returns (repr_under k d)
  maybe_repr_in _ = no_repr

  repr_under : List ℕ → Data → ReprData
  repr_under k (array ts) = tuple (reprs_in ts)
  repr_under k (string s) = of_lifetime (record { 0 = s })
  repr_under k (object ms) = repr_of k ms
  repr_under k _ = unit_type

  repr_of : List ℕ → Members → ReprData
  repr_of k (member l d no_members) = slice (repr_under l d)
  repr_of k (member l (string a) (member m (string p) no_members)) = associated p a
  repr_of k (member l d (member m (array ts) no_members)) = applied_in k (path_in d) (reprs_in ts)
  repr_of k (member l d (member m e (member n f no_members))) = reference (maybe_lifetime_in d) (truth_in e) (repr_in f)
  repr_of k (member l (array fs) (member m (array ts) (member n p (member o r no_members)))) =
      function (items_in parameter_in fs) (path_in p) (reprs_in ts) (maybe_repr_in r)
  repr_of k _ = unit_type

-- the data of a type is an object of one member
under_slice : (t : ReprData) → repr_in (repr_form (slice t)) ≡ slice (repr_in (repr_form t))
under_slice (tuple ts) = refl
under_slice (slice t) = refl
under_slice (nominal p ts) = refl
under_slice (associated p a) = refl
under_slice (of_lifetime l) = refl
under_slice (reference l m t) = refl
under_slice (trait_object p ts) = refl
under_slice (function fs p ts r) = refl

returned : (t : ReprData) → maybe_repr_in (repr_form t) ≡ returns (repr_in (repr_form t))
returned (tuple ts) = refl
returned (slice t) = refl
returned (nominal p ts) = refl
returned (associated p a) = refl
returned (of_lifetime l) = refl
returned (reference l m t) = refl
returned (trait_object p ts) = refl
returned (function fs p ts r) = refl

mutual
  pub repr_back : (t : ReprData) → repr_in (repr_form t) ≡ t
  repr_back (tuple ts) = ap tuple (reprs_back ts)
  repr_back (slice t) = under_slice t ∙ ap slice (repr_back t)
  repr_back (nominal p ts) = ap₂ nominal (path_back p) (reprs_back ts)
  repr_back (associated p a) = refl
  repr_back (of_lifetime l) = refl
  repr_back (reference None m t) = ap (λ (u : ReprData). reference None m u) (repr_back t)
  repr_back (reference (Some l) m t) = ap (λ (u : ReprData). reference (Some l) m u) (repr_back t)
  repr_back (trait_object p ts) = ap₂ trait_object (path_back p) (reprs_back ts)
  repr_back (function fs p ts r) =
      ap₂ (λ (gs : List TypeParameter) (q : PathData). function gs q (reprs_in (reprs_form ts)) (maybe_repr_in (maybe_repr_form r))) (parameters_back fs) (path_back p)
      ∙ ap₂ (λ (us : Reprs) (s : MaybeRepr). function fs p us s) (reprs_back ts) (maybe_repr_back r)

  reprs_back : (ts : Reprs) → reprs_in (reprs_form ts) ≡ ts
  reprs_back no_reprs = refl
  reprs_back (repr_and t ts) = ap₂ repr_and (repr_back t) (reprs_back ts)

  maybe_repr_back : (r : MaybeRepr) → maybe_repr_in (maybe_repr_form r) ≡ r
  maybe_repr_back no_repr = refl
  maybe_repr_back (returns t) = returned t ∙ ap returns (repr_back t)

-- two types of one data are the same
pub same_repr : (t u : ReprData) → repr_form t ≡ repr_form u → t ≡ u
same_repr t u e = sym (repr_back t) ∙ ap repr_in e ∙ repr_back u
