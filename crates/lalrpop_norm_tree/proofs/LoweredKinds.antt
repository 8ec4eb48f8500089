-- What written types are lowered to, one kind after another.
use Rattle.std.proofs.Common.{◌≡◌, List, ℕ, Bool, Option, Box, Vec, Global, option_map, refl, ap, ◌∙◌}
use Rattle.lalrpop_norm_tree.specs.declared.symbol.SymbolKind.{SymbolKind}
use Rattle.lalrpop_norm_tree.specs.declared.types.TypeRef.{TypeRef}
use Rattle.lalrpop_norm_tree.specs.declared.types.TypeRef.TheVariants as variant
use Rattle.lalrpop_norm_tree.specs.LoweredTypes.{named_path, repr_of, all_reprs_of, result_repr_of}
use Rattle.lalrpop_norm_tree.specs.Types.{maybe_of, type_view, types_view}
use Rattle.lalrpop_norm_tree_names.specs.declared.names.Lifetime.{Lifetime}
use Rattle.lalrpop_norm_tree_names.specs.declared.names.TypeParameter.{TypeParameter}
use Rattle.lalrpop_norm_tree_parts.specs.declared.path.Path.{Path}
use Rattle.lalrpop_norm_tree_parts.specs.declared.lowered.TypeRepr.{TypeRepr}
use Rattle.lalrpop_norm_tree_parts.specs.declared.lowered.NominalTypeRepr.{NominalTypeRepr}
use Rattle.lalrpop_norm_tree_parts.specs.declared.lowered.TypeRepr.TheVariants as made
use Rattle.lalrpop_norm_tree_parts.specs.Bounds.{SameOption}
use Rattle.lalrpop_norm_tree_parts.specs.Paths.{path_view}
use Rattle.lalrpop_norm_tree_parts.specs.Reprs.{Applied, tuple, slice, nominal, of_lifetime, reference, trait_object, no_reprs, maybe_repr_of, repr_view, applied_view, reprs_view}
use Rattle.lalrpop_norm_tree_parts.proofs.ReprSeen.{slice_seen, lifetime_seen, reference_seen, object_seen, function_seen}
use Rattle.lalrpop_norm_tree_parts.proofs.ReprViews.{view_tuple, view_nominal}
use Rattle.lalrpop_norm_tree.proofs.TypeCopies.{over_lifetimes}
use Rattle.lalrpop_norm_tree.proofs.TypeViews.{tuple_is, slice_is, nominal_is, reference_is, object_is, lifetime_is, id_is, symbol_is, function_is}

module _ (t : TypeRef) where
  pub tuple_lowered : (ts : Vec TypeRef Global) (rs : Vec TypeRepr Global) → t ≡ variant.Tuple ts → reprs_view rs.items ≡ all_reprs_of (types_view ts.items) → repr_view (made.Tuple rs) ≡ repr_of (type_view t)
  tuple_lowered ts rs is same = rw (tuple_is t ts is) (view_tuple rs ∙ ap tuple same)

  pub slice_lowered : (b : Box TypeRef Global) (d : Box TypeRepr Global) → t ≡ variant.Slice b → repr_view d.value ≡ repr_of (type_view b.value) → repr_view (made.Slice d) ≡ repr_of (type_view t)
  slice_lowered b d is same = rw (slice_is t b is) (slice_seen d ∙ ap slice same)

  pub nominal_lowered : (p : Path) (ts : Vec TypeRef Global) (n : NominalTypeRepr) → t ≡ variant.Nominal p ts → applied_view n ≡ (path_view p, all_reprs_of (types_view ts.items)) → repr_view (made.Nominal n) ≡ repr_of (type_view t)
  nominal_lowered p ts n is same = rw (nominal_is t p ts is) (view_nominal n ∙ ap (λ (a : Applied). nominal a.0 a.1) same)

  pub reference_lowered : (l k : Option Lifetime) (m : Bool) (b : Box TypeRef Global) (d : Box TypeRepr Global) → t ≡ variant.Ref l m b → SameOption (λ z y. y.0 ≡ z.0) l k → repr_view d.value ≡ repr_of (type_view b.value) → repr_view (made.Ref k m d) ≡ repr_of (type_view t)
  reference_lowered l k m b d is e same = rw (reference_is t l m b is) (reference_seen k m d ∙ over_lifetimes (λ x. reference x m (repr_view d.value)) l k e ∙ ap (λ y. reference l m y) same)

  pub object_lowered : (p : Path) (ts : Vec TypeRef Global) (n : NominalTypeRepr) → t ≡ variant.TraitObject p ts → applied_view n ≡ (path_view p, all_reprs_of (types_view ts.items)) → repr_view (made.TraitObject n) ≡ repr_of (type_view t)
  object_lowered p ts n is same = rw (object_is t p ts is) (object_seen n ∙ ap (λ (a : Applied). trait_object a.0 a.1) same)

  pub lifetime_lowered : (l k : Lifetime) → t ≡ variant.Lifetime l → k.0 ≡ l.0 → repr_view (made.Lifetime k) ≡ repr_of (type_view t)
  lifetime_lowered l k is same = rw (lifetime_is t l is) (lifetime_seen k ∙ ap (λ a. of_lifetime record { 0 = a }) same)

  pub id_lowered : (a : List ℕ) (n : NominalTypeRepr) → t ≡ variant.Id a → applied_view n ≡ (named_path a, no_reprs) → repr_view (made.Nominal n) ≡ repr_of (type_view t)
  id_lowered a n is same = rw (id_is t a is) (view_nominal n ∙ ap (λ (b : Applied). nominal b.0 b.1) same)

  pub symbol_lowered : (k : SymbolKind) (rs : Vec TypeRepr Global) → t ≡ variant.OfSymbol k → reprs_view rs.items ≡ no_reprs → repr_view (made.Tuple rs) ≡ repr_of (type_view t)
  symbol_lowered k rs is none = rw (symbol_is t k is) (view_tuple rs ∙ ap tuple none)

  pub function_lowered : (fs gs : Vec TypeParameter Global) (p q : Path) (ts : Vec TypeRef Global) (us : Vec TypeRepr Global) (r : Option (Box TypeRef Global)) (s : Option (Box TypeRepr Global)) → t ≡ variant.Fn fs p ts r
      → gs.items ≡ fs.items → path_view q ≡ path_view p → reprs_view us.items ≡ all_reprs_of (types_view ts.items)
      → maybe_repr_of (option_map (λ b. repr_view b.value) s) ≡ result_repr_of (maybe_of (option_map (λ b. type_view b.value) r)) → repr_view (made.Fn gs q us s) ≡ repr_of (type_view t)
  function_lowered fs gs p q ts us r s is a b c d = rw (function_is t fs p ts r is, function_seen gs q us s, a, b, c, d) refl
