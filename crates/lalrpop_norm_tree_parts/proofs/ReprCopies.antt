-- Copies of lowered types, one kind after another.
use Rattle.std.proofs.Common.{◌≡◌, ℕ, Bool, List, Option, Some, None, Box, Vec, Global, option_map, refl, ap, ap₂, sym, ◌∙◌}
use Rattle.lalrpop_norm_tree_names.specs.declared.names.Lifetime.{Lifetime}
use Rattle.lalrpop_norm_tree_names.specs.declared.names.TypeParameter.{TypeParameter}
use Rattle.lalrpop_norm_tree_parts.specs.declared.path.Path.{Path}
use Rattle.lalrpop_norm_tree_parts.specs.declared.lowered.TypeRepr.{TypeRepr}
use Rattle.lalrpop_norm_tree_parts.specs.declared.lowered.NominalTypeRepr.{NominalTypeRepr}
use Rattle.lalrpop_norm_tree_parts.specs.declared.lowered.TypeRepr.TheVariants as variant
use Rattle.lalrpop_norm_tree_parts.specs.declared.lowered.TypeRepr.TheViews.{roll-NominalTypeRepr}
use Rattle.lalrpop_norm_tree_parts.specs.Bounds.{SameOption}
use Rattle.lalrpop_norm_tree_parts.specs.Paths.{path_view}
use Rattle.lalrpop_norm_tree_parts.specs.Reprs.{Applied, tuple, slice, nominal, reference, trait_object, repr_view, applied_view, reprs_view}
use Rattle.lalrpop_norm_tree_parts.proofs.ReprSeen.{slice_seen, reference_seen, object_seen, function_seen, applied_is}
use Rattle.lalrpop_norm_tree_parts.proofs.ReprViews.{view_tuple, view_nominal}

same_lifetime : (l k : Option Lifetime) → SameOption (λ z y. y.0 ≡ z.0) l k → k ≡ l
same_lifetime None None e = refl
same_lifetime None (Some y) e = absurd e
same_lifetime (Some z) None e = absurd e
same_lifetime (Some z) (Some y) e = ap (λ a. Some record { 0 = a }) e

module _ (t : TypeRepr) where
  pub tuple_copied : (ts us : Vec TypeRepr Global) → t ≡ variant.Tuple ts → reprs_view us.items ≡ reprs_view ts.items → repr_view (variant.Tuple us) ≡ repr_view t
  tuple_copied ts us is same = view_tuple us ∙ ap tuple same ∙ sym (view_tuple ts) ∙ ap repr_view (sym is)

  pub slice_copied : (b d : Box TypeRepr Global) → t ≡ variant.Slice b → repr_view d.value ≡ repr_view b.value → repr_view (variant.Slice d) ≡ repr_view t
  slice_copied b d is same = slice_seen d ∙ ap slice same ∙ sym (slice_seen b) ∙ ap repr_view (sym is)

  pub nominal_copied : (n m : NominalTypeRepr) → t ≡ variant.Nominal n → applied_view m ≡ applied_view n → repr_view (variant.Nominal m) ≡ repr_view t
  nominal_copied n m is same = view_nominal m ∙ ap (λ (a : Applied). nominal a.0 a.1) same ∙ sym (view_nominal n) ∙ ap repr_view (sym is)

  pub associated_copied : (p a q b : List ℕ) → t ≡ variant.Associated p a → q ≡ p → b ≡ a → repr_view (variant.Associated q b) ≡ repr_view t
  associated_copied p a q b is e f = ap₂ (λ x y. repr_view (variant.Associated x y)) e f ∙ ap repr_view (sym is)

  pub lifetime_copied : (l k : Lifetime) → t ≡ variant.Lifetime l → k.0 ≡ l.0 → repr_view (variant.Lifetime k) ≡ repr_view t
  lifetime_copied l k is same = ap (λ a. repr_view (variant.Lifetime record { 0 = a })) same ∙ ap repr_view (sym is)

  pub reference_copied : (l k : Option Lifetime) (m : Bool) (b d : Box TypeRepr Global) → t ≡ variant.Ref l m b → SameOption (λ z y. y.0 ≡ z.0) l k → repr_view d.value ≡ repr_view b.value → repr_view (variant.Ref k m d) ≡ repr_view t
  reference_copied l k m b d is e same = reference_seen k m d ∙ ap₂ (λ x y. reference x m y) (same_lifetime l k e) same ∙ sym (reference_seen l m b) ∙ ap repr_view (sym is)

  pub object_copied : (n m : NominalTypeRepr) → t ≡ variant.TraitObject n → applied_view m ≡ applied_view n → repr_view (variant.TraitObject m) ≡ repr_view t
  object_copied n m is same = object_seen m ∙ ap (λ (a : Applied). trait_object a.0 a.1) same ∙ sym (object_seen n) ∙ ap repr_view (sym is)

  pub function_copied : (fs gs : Vec TypeParameter Global) (p q : Path) (ts us : Vec TypeRepr Global) (r s : Option (Box TypeRepr Global)) → t ≡ variant.Fn fs p ts r → gs.items ≡ fs.items → path_view q ≡ path_view p
      → reprs_view us.items ≡ reprs_view ts.items → option_map (λ b. repr_view b.value) s ≡ option_map (λ b. repr_view b.value) r → repr_view (variant.Fn gs q us s) ≡ repr_view t
  function_copied fs gs p q ts us r s is a b c d = rw (is, function_seen gs q us s, function_seen fs p ts r, a, b, c, d) refl

pub applied_copied : (n : NominalTypeRepr) (p : Path) (ts : Vec TypeRepr Global) → path_view p ≡ path_view n.path → reprs_view ts.items ≡ reprs_view n.types.items
    → applied_view (roll-NominalTypeRepr record { path = p; types = ts }) ≡ applied_view n
applied_copied n p ts e f = rw (applied_is n, applied_is (roll-NominalTypeRepr record { path = p; types = ts }), e, f) refl
