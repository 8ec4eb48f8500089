-- Lowered types of several kinds for which the same holds, one kind after another.
use Rattle.std.proofs.Common.{true≢false, ◌≡◌, ◌↔◌, ◌⊎◌, inl, inr, ℕ, Bool, true, false, IsTrue, List, Option, Box, Vec, Global, option_map, refl, ap, sym, subst, ◌∙◌}
use Rattle.lalrpop_norm_tree_names.specs.declared.names.Lifetime.{Lifetime}
use Rattle.lalrpop_norm_tree_names.specs.declared.names.TypeParameter.{TypeParameter}
use Rattle.lalrpop_norm_tree_parts.specs.declared.path.Path.{Path}
use Rattle.lalrpop_norm_tree_parts.specs.declared.lowered.TypeRepr.{TypeRepr}
use Rattle.lalrpop_norm_tree_parts.specs.declared.lowered.NominalTypeRepr.{NominalTypeRepr}
use Rattle.lalrpop_norm_tree_parts.specs.declared.lowered.TypeRepr.TheVariants as variant
use Rattle.lalrpop_norm_tree_parts.specs.LifetimeNames.{Scope, named_here}
use Rattle.lalrpop_norm_tree_parts.specs.Paths.{path_view}
use Rattle.lalrpop_norm_tree_parts.specs.Reprs.{ReprData, tuple, slice, nominal, associated, of_lifetime, reference, trait_object, function, no_reprs, maybe_repr_of, repr_view, applied_view, reprs_view}
use Rattle.lalrpop_norm_tree_parts.proofs.ReprSeen.{slice_seen, associated_seen, lifetime_seen, reference_seen, object_seen, function_seen}
use Rattle.lalrpop_norm_tree_parts.proofs.ReprViews.{view_tuple, view_nominal}

abbrev is_tuple : ReprData → Bool
is_tuple (tuple ts) = true
is_tuple _ = false

module _ (t : TypeRepr) where
  abbrev IsSlice : Type 0
  IsSlice = (b : Box TypeRepr Global) × (t ≡ variant.Slice b)

  abbrev IsNominal : Type 0
  IsNominal = (n : NominalTypeRepr) × (t ≡ variant.Nominal n)

  abbrev IsAssociated : Type 0
  IsAssociated = (p : List ℕ) × (a : List ℕ) × (t ≡ variant.Associated p a)

  abbrev IsObject : Type 0
  IsObject = (n : NominalTypeRepr) × (t ≡ variant.TraitObject n)

  abbrev IsFunction : Type 0
  IsFunction = (fs : Vec TypeParameter Global) × (p : Path) × (ts : Vec TypeRepr Global) × (r : Option (Box TypeRepr Global)) × (t ≡ variant.Fn fs p ts r)

  seen_slice : (w : IsSlice) → repr_view t ≡ slice (repr_view w.0.value)
  seen_slice w = ap repr_view w.1 ∙ slice_seen w.0

  seen_nominal : (w : IsNominal) → repr_view t ≡ nominal (applied_view w.0).0 (applied_view w.0).1
  seen_nominal w = ap repr_view w.1 ∙ view_nominal w.0

  seen_associated : (w : IsAssociated) → repr_view t ≡ associated w.0 w.1
  seen_associated w = ap repr_view w.2 ∙ associated_seen w.0 w.1

  seen_object : (w : IsObject) → repr_view t ≡ trait_object (applied_view w.0).0 (applied_view w.0).1
  seen_object w = ap repr_view w.1 ∙ object_seen w.0

  seen_function : (w : IsFunction) → repr_view t ≡ function w.0.items (path_view w.1) (reprs_view w.2.items) (maybe_repr_of (option_map (λ b. repr_view b.value) w.3))
  seen_function w = ap repr_view w.4 ∙ function_seen w.0 w.1 w.2 w.3

  -- only a tuple may be the unit type
  apart : (x : ReprData) → is_tuple x ≡ false → repr_view t ≡ x → IsTrue false ↔ (repr_view t ≡ tuple no_reprs)
  apart x other seen = (λ h. absurd (true≢false (sym h)), λ e. absurd (true≢false (ap is_tuple (sym e ∙ seen) ∙ other)))

  pub no_unit : IsSlice ⊎ (IsNominal ⊎ (IsAssociated ⊎ (((l : Lifetime) × (t ≡ variant.Lifetime l)) ⊎ (((l : Option Lifetime) × (m : Bool) × (b : Box TypeRepr Global) × (t ≡ variant.Ref l m b)) ⊎ (IsObject ⊎ IsFunction))))) → IsTrue false ↔ (repr_view t ≡ tuple no_reprs)
  no_unit (inl w) = apart (slice (repr_view w.0.value)) refl (seen_slice w)
  no_unit (inr (inl w)) = apart (nominal (applied_view w.0).0 (applied_view w.0).1) refl (seen_nominal w)
  no_unit (inr (inr (inl w))) = apart (associated w.0 w.1) refl (seen_associated w)
  no_unit (inr (inr (inr (inl w)))) = apart (of_lifetime w.0) refl (ap repr_view w.1 ∙ lifetime_seen w.0)
  no_unit (inr (inr (inr (inr (inl w))))) = apart (reference w.0 w.1 (repr_view w.2.value)) refl (ap repr_view w.3 ∙ reference_seen w.0 w.1 w.2)
  no_unit (inr (inr (inr (inr (inr (inl w)))))) = apart (trait_object (applied_view w.0).0 (applied_view w.0).1) refl (seen_object w)
  no_unit (inr (inr (inr (inr (inr (inr w)))))) = apart (function w.0.items (path_view w.1) (reprs_view w.2.items) (maybe_repr_of (option_map (λ b. repr_view b.value) w.3))) refl (seen_function w)

  -- what is neither a lifetime nor a reference stays as it is
  module _ (prefix : List ℕ) (s : Scope) where
    stays : (x : ReprData) → (x, s) ≡ named_here prefix x s → repr_view t ≡ x → (repr_view t, s) ≡ named_here prefix (repr_view t) s
    stays x same seen = subst (λ (y : ReprData). (y, s) ≡ named_here prefix y s) (sym seen) same

    pub named_as_it_is : ((ts : Vec TypeRepr Global) × (t ≡ variant.Tuple ts)) ⊎ (IsSlice ⊎ (IsNominal ⊎ (IsAssociated ⊎ (IsObject ⊎ IsFunction)))) → (repr_view t, s) ≡ named_here prefix (repr_view t) s
    named_as_it_is (inl w) = stays (tuple (reprs_view w.0.items)) refl (ap repr_view w.1 ∙ view_tuple w.0)
    named_as_it_is (inr (inl w)) = stays (slice (repr_view w.0.value)) refl (seen_slice w)
    named_as_it_is (inr (inr (inl w))) = stays (nominal (applied_view w.0).0 (applied_view w.0).1) refl (seen_nominal w)
    named_as_it_is (inr (inr (inr (inl w)))) = stays (associated w.0 w.1) refl (seen_associated w)
    named_as_it_is (inr (inr (inr (inr (inl w))))) = stays (trait_object (applied_view w.0).0 (applied_view w.0).1) refl (seen_object w)
    named_as_it_is (inr (inr (inr (inr (inr w))))) = stays (function w.0.items (path_view w.1) (reprs_view w.2.items) (maybe_repr_of (option_map (λ b. repr_view b.value) w.3))) refl (seen_function w)
