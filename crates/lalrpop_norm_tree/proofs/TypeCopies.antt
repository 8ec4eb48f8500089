-- Copies of written types, and lowered types, one kind after another.
use Rattle.std.proofs.Common.{◌≡◌, List, ℕ, Bool, Option, Some, None, Box, Vec, Global, map, option_map, refl, sym, ap, ap₂, ◌∙◌}
use Rattle.lalrpop_norm_tree.specs.declared.symbol.SymbolKind.{SymbolKind}
use Rattle.lalrpop_norm_tree.specs.declared.types.TypeRef.{TypeRef}
use Rattle.lalrpop_norm_tree.specs.declared.types.TypeRef.TheVariants as variant
use Rattle.lalrpop_norm_tree.specs.Symbols.{kind_view}
use Rattle.lalrpop_norm_tree.specs.Types.{tuple, slice, nominal, reference, trait_object, of_symbol, function, types_of, maybe_of, type_view, types_view}
use Rattle.lalrpop_norm_tree_names.specs.declared.names.Lifetime.{Lifetime}
use Rattle.lalrpop_norm_tree_names.specs.declared.names.TypeParameter.{TypeParameter}
use Rattle.lalrpop_norm_tree_parts.specs.declared.path.Path.{Path}
use Rattle.lalrpop_norm_tree_parts.specs.Bounds.{SameOption}
use Rattle.lalrpop_norm_tree_parts.specs.Paths.{path_view}
use Rattle.lalrpop_norm_tree.proofs.TypeViews.{tuple_is, slice_is, nominal_is, reference_is, object_is, symbol_is, function_is}

-- what is made of a copied lifetime
pub over_lifetimes : {V : Type 0} (f : Option Lifetime → V) (l k : Option Lifetime) → SameOption (λ z y. y.0 ≡ z.0) l k → f k ≡ f l
over_lifetimes f None None e = refl
over_lifetimes f None (Some y) e = absurd e
over_lifetimes f (Some z) None e = absurd e
over_lifetimes f (Some z) (Some y) e = ap (λ a. f (Some record { 0 = a })) e

module _ (t : TypeRef) where
  pub tuple_copied : (ts us : Vec TypeRef Global) → t ≡ variant.Tuple ts → map type_view us.items ≡ map type_view ts.items → type_view (variant.Tuple us) ≡ type_view t
  tuple_copied ts us is same = tuple_is (variant.Tuple us) us refl ∙ ap (λ vs. tuple (types_of vs)) same ∙ sym (tuple_is t ts is)

  pub slice_copied : (b d : Box TypeRef Global) → t ≡ variant.Slice b → type_view d.value ≡ type_view b.value → type_view (variant.Slice d) ≡ type_view t
  slice_copied b d is same = slice_is (variant.Slice d) d refl ∙ ap slice same ∙ sym (slice_is t b is)

  pub nominal_copied : (p q : Path) (ts us : Vec TypeRef Global) → t ≡ variant.Nominal p ts → path_view q ≡ path_view p → map type_view us.items ≡ map type_view ts.items → type_view (variant.Nominal q us) ≡ type_view t
  nominal_copied p q ts us is e same = nominal_is (variant.Nominal q us) q us refl ∙ ap₂ (λ x vs. nominal x (types_of vs)) e same ∙ sym (nominal_is t p ts is)

  pub reference_copied : (l k : Option Lifetime) (m : Bool) (b d : Box TypeRef Global) → t ≡ variant.Ref l m b → SameOption (λ z y. y.0 ≡ z.0) l k → type_view d.value ≡ type_view b.value → type_view (variant.Ref k m d) ≡ type_view t
  reference_copied l k m b d is e same = reference_is (variant.Ref k m d) k m d refl ∙ over_lifetimes (λ x. reference x m (type_view d.value)) l k e ∙ ap (λ y. reference l m y) same ∙ sym (reference_is t l m b is)

  pub object_copied : (p q : Path) (ts us : Vec TypeRef Global) → t ≡ variant.TraitObject p ts → path_view q ≡ path_view p → map type_view us.items ≡ map type_view ts.items → type_view (variant.TraitObject q us) ≡ type_view t
  object_copied p q ts us is e same = object_is (variant.TraitObject q us) q us refl ∙ ap₂ (λ x vs. trait_object x (types_of vs)) e same ∙ sym (object_is t p ts is)

  pub lifetime_copied : (l k : Lifetime) → t ≡ variant.Lifetime l → k.0 ≡ l.0 → type_view (variant.Lifetime k) ≡ type_view t
  lifetime_copied l k is same = ap (λ a. type_view (variant.Lifetime record { 0 = a })) same ∙ ap type_view (sym is)

  pub id_copied : (a b : List ℕ) → t ≡ variant.Id a → b ≡ a → type_view (variant.Id b) ≡ type_view t
  id_copied a b is same = ap (λ x. type_view (variant.Id x)) same ∙ ap type_view (sym is)

  pub symbol_copied : (k l : SymbolKind) → t ≡ variant.OfSymbol k → kind_view l ≡ kind_view k → type_view (variant.OfSymbol l) ≡ type_view t
  symbol_copied k l is same = symbol_is (variant.OfSymbol l) l refl ∙ ap of_symbol same ∙ sym (symbol_is t k is)

  pub function_copied : (fs gs : Vec TypeParameter Global) (p q : Path) (ts us : Vec TypeRef Global) (r s : Option (Box TypeRef Global)) → t ≡ variant.Fn fs p ts r → gs.items ≡ fs.items → path_view q ≡ path_view p
      → map type_view us.items ≡ map type_view ts.items → option_map (λ b. type_view b.value) s ≡ option_map (λ b. type_view b.value) r → type_view (variant.Fn gs q us s) ≡ type_view t
  function_copied fs gs p q ts us r s is a b c d = rw (function_is t fs p ts r is, function_is (variant.Fn gs q us s) gs q us s refl, a, b, c, d) refl
