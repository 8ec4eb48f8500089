-- One level of a written type as data: what a type of each kind is seen as, over what its parts are seen as.
use Rattle.std.proofs.Common.{◌≡◌, List, ℕ, Bool, Option, Some, None, Box, Vec, Global, option_map, sym, ap, ◌∙◌}
use Rattle.lalrpop_norm_tree.specs.declared.symbol.SymbolKind.{SymbolKind}
use Rattle.lalrpop_norm_tree.specs.declared.types.TypeRef.{TypeRef}
use Rattle.lalrpop_norm_tree.specs.declared.types.TypeRef.TheVariants as variant
use Rattle.lalrpop_norm_tree.specs.declared.types.TypeRef.TheOpen.{TypeRef-F}
use Rattle.lalrpop_norm_tree.specs.declared.types.TypeRef.TheFolds.{fold-roll-TypeRef}
use Rattle.lalrpop_norm_tree.specs.declared.types.TypeRef.TheViews.{rolls-Tuple, rolls-Slice, rolls-Nominal, rolls-Ref, rolls-TraitObject, rolls-Lifetime, rolls-Id, rolls-OfSymbol, rolls-Fn}
use Rattle.lalrpop_norm_tree.specs.Symbols.{kind_view}
use Rattle.lalrpop_norm_tree.specs.Types.{TypeData, tuple, slice, nominal, reference, trait_object, of_lifetime, id, of_symbol, function, maybe_of, type_step, type_view, types_view}
use Rattle.lalrpop_norm_tree_names.specs.declared.names.Lifetime.{Lifetime}
use Rattle.lalrpop_norm_tree_names.specs.declared.names.TypeParameter.{TypeParameter}
use Rattle.lalrpop_norm_tree_parts.specs.declared.path.Path.{Path}
use Rattle.lalrpop_norm_tree_parts.specs.Paths.{path_view}

module _ (t : TypeRef) where
  pub tuple_is : (ts : Vec TypeRef Global) → t ≡ variant.Tuple ts → type_view t ≡ tuple (types_view ts.items)
  tuple_is ts is = ap type_view (is ∙ sym (rolls-Tuple ts)) ∙ fold-roll-TypeRef TypeData type_step (TypeRef-F.Tuple ts)

  pub slice_is : (b : Box TypeRef Global) → t ≡ variant.Slice b → type_view t ≡ slice (type_view b.value)
  slice_is b is = ap type_view (is ∙ sym (rolls-Slice b)) ∙ fold-roll-TypeRef TypeData type_step (TypeRef-F.Slice b)

  pub nominal_is : (p : Path) (ts : Vec TypeRef Global) → t ≡ variant.Nominal p ts → type_view t ≡ nominal (path_view p) (types_view ts.items)
  nominal_is p ts is = ap type_view (is ∙ sym (rolls-Nominal p ts)) ∙ fold-roll-TypeRef TypeData type_step (TypeRef-F.Nominal p ts)

  pub reference_is : (l : Option Lifetime) (m : Bool) (b : Box TypeRef Global) → t ≡ variant.Ref l m b → type_view t ≡ reference l m (type_view b.value)
  reference_is l m b is = ap type_view (is ∙ sym (rolls-Ref l m b)) ∙ fold-roll-TypeRef TypeData type_step (TypeRef-F.Ref l m b)

  pub object_is : (p : Path) (ts : Vec TypeRef Global) → t ≡ variant.TraitObject p ts → type_view t ≡ trait_object (path_view p) (types_view ts.items)
  object_is p ts is = ap type_view (is ∙ sym (rolls-TraitObject p ts)) ∙ fold-roll-TypeRef TypeData type_step (TypeRef-F.TraitObject p ts)

  pub lifetime_is : (l : Lifetime) → t ≡ variant.Lifetime l → type_view t ≡ of_lifetime l
  lifetime_is l is = ap type_view (is ∙ sym (rolls-Lifetime l)) ∙ fold-roll-TypeRef TypeData type_step (TypeRef-F.Lifetime l)

  pub id_is : (a : List ℕ) → t ≡ variant.Id a → type_view t ≡ id a
  id_is a is = ap type_view (is ∙ sym (rolls-Id a)) ∙ fold-roll-TypeRef TypeData type_step (TypeRef-F.Id a)

  pub symbol_is : (k : SymbolKind) → t ≡ variant.OfSymbol k → type_view t ≡ of_symbol (kind_view k)
  symbol_is k is = ap type_view (is ∙ sym (rolls-OfSymbol k)) ∙ fold-roll-TypeRef TypeData type_step (TypeRef-F.OfSymbol k)

  pub function_is : (fs : Vec TypeParameter Global) (p : Path) (ts : Vec TypeRef Global) (r : Option (Box TypeRef Global)) → t ≡ variant.Fn fs p ts r
      → type_view t ≡ function fs.items (path_view p) (types_view ts.items) (maybe_of (option_map (λ b. type_view b.value) r))
  function_is fs p ts None is = ap type_view (is ∙ sym (rolls-Fn fs p ts None)) ∙ fold-roll-TypeRef TypeData type_step (TypeRef-F.Fn fs p ts None)
  function_is fs p ts (Some b) is = ap type_view (is ∙ sym (rolls-Fn fs p ts (Some b))) ∙ fold-roll-TypeRef TypeData type_step (TypeRef-F.Fn fs p ts (Some b))
