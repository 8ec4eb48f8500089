-- Written types as plain data.
use Rattle.std.specs.Prelude.{ℕ, Bool, List, [], ◌∷◌, map, Option, Some, None, option_map}
use Rattle.lalrpop_norm_tree_names.specs.declared.names.Lifetime.{Lifetime}
use Rattle.lalrpop_norm_tree_names.specs.declared.names.TypeParameter.{TypeParameter}
use Rattle.lalrpop_norm_tree.specs.declared.types.Parameter.{Parameter}
use Rattle.lalrpop_norm_tree.specs.declared.types.TypeRef.{TypeRef}
use Rattle.lalrpop_norm_tree.specs.declared.types.TypeRef.TheOpen.{TypeRef-F}
use Rattle.lalrpop_norm_tree.specs.declared.types.TypeRef.TheFolds.{fold-TypeRef}
use Rattle.lalrpop_norm_tree_parts.specs.Paths.{PathData, path_view}
use Rattle.lalrpop_norm_tree.specs.Symbols.{Kind, kind_view}

mutual
  pub data TypeData : Type 0 where
    tuple : TypesData → TypeData
    slice : TypeData → TypeData
    nominal : PathData → TypesData → TypeData
    reference : Option Lifetime → Bool → TypeData → TypeData
    trait_object : PathData → TypesData → TypeData
    of_lifetime : Lifetime → TypeData
    id : List ℕ → TypeData
    of_symbol : Kind → TypeData
    function : List TypeParameter → PathData → TypesData → MaybeType → TypeData

  pub data TypesData : Type 0 where
    no_types : TypesData
    type_and : TypeData → TypesData → TypesData

  pub data MaybeType : Type 0 where
    no_type : MaybeType
    returns : TypeData → MaybeType

abbrev pub types_of : List TypeData → TypesData
types_of [] = no_types
types_of (t ∷ ts) = type_and t (types_of ts)

abbrev pub maybe_of : Option TypeData → MaybeType
maybe_of None = no_type
maybe_of (Some t) = returns t

abbrev pub type_step : TypeRef-F TypeData → TypeData
type_step (TypeRef-F.Tuple ts) = tuple (types_of ts.items)
type_step (TypeRef-F.Slice t) = slice t.value
type_step (TypeRef-F.Nominal p ts) = nominal (path_view p) (types_of ts.items)
type_step (TypeRef-F.Ref l m t) = reference l m t.value
type_step (TypeRef-F.TraitObject p ts) = trait_object (path_view p) (types_of ts.items)
type_step (TypeRef-F.Lifetime l) = of_lifetime l
type_step (TypeRef-F.Id a) = id a
type_step (TypeRef-F.OfSymbol s) = of_symbol (kind_view s)
type_step (TypeRef-F.Fn fs p ts r) = function fs.items (path_view p) (types_of ts.items) (maybe_of (option_map (λ b. b.value) r))

abbrev pub type_view : TypeRef → TypeData
type_view = fold-TypeRef TypeData type_step

abbrev pub types_view : List TypeRef → TypesData
types_view ts = types_of (map type_view ts)

-- a parameter of a grammar
pub record ParameterData : Type 0 where
  pub name : List ℕ
  pub type : TypeData

abbrev pub parameter_view : Parameter → ParameterData
parameter_view p = record { name = p.name; type = type_view p.ty }
