-- Lowered types and where clauses as plain data.
use Rattle.std.specs.Prelude.{ℕ, Bool, false, List, [], ◌∷◌, map, Option, Some, None, option_map, codes}
use Rattle.lalrpop_norm_tree_names.specs.declared.names.Lifetime.{Lifetime}
use Rattle.lalrpop_norm_tree_names.specs.declared.names.TypeParameter.{TypeParameter}
use Rattle.lalrpop_norm_tree_parts.specs.declared.lowered.NominalTypeRepr.{NominalTypeRepr}
use Rattle.lalrpop_norm_tree_parts.specs.declared.lowered.TypeRepr.{TypeRepr}
use Rattle.lalrpop_norm_tree_parts.specs.declared.lowered.TypeRepr.TheOpen.{TypeRepr-F, NominalTypeRepr-F}
use Rattle.lalrpop_norm_tree_parts.specs.declared.lowered.TypeRepr.TheFolds.{fold-TypeRepr, fold-NominalTypeRepr}
use Rattle.lalrpop_norm_tree_parts.specs.declared.lowered.WhereClause.{WhereClause}
use Rattle.lalrpop_norm_tree_parts.specs.declared.lowered.WhereClause.TheOpen.{WhereClause-F}
use Rattle.lalrpop_norm_tree_parts.specs.declared.lowered.WhereClause.TheFolds.{fold-WhereClause}
use Rattle.lalrpop_norm_tree_names.specs.declared.names.TypeParameter.TheVariants as parameter
use Rattle.lalrpop_norm_tree_parts.specs.Paths.{PathData, path_view}
use Rattle.lalrpop_norm_tree_parts.specs.Bounds.{BoundData, bound_view}

mutual
  pub data ReprData : Type 0 where
    tuple : Reprs → ReprData
    slice : ReprData → ReprData
    nominal : PathData → Reprs → ReprData
    associated : List ℕ → List ℕ → ReprData
    of_lifetime : Lifetime → ReprData
    reference : Option Lifetime → Bool → ReprData → ReprData
    trait_object : PathData → Reprs → ReprData
    function : List TypeParameter → PathData → Reprs → MaybeRepr → ReprData

  pub data Reprs : Type 0 where
    no_reprs : Reprs
    repr_and : ReprData → Reprs → Reprs

  pub data MaybeRepr : Type 0 where
    no_repr : MaybeRepr
    returns : ReprData → MaybeRepr

abbrev pub reprs_of : List ReprData → Reprs
reprs_of [] = no_reprs
reprs_of (t ∷ ts) = repr_and t (reprs_of ts)

abbrev pub maybe_repr_of : Option ReprData → MaybeRepr
maybe_repr_of None = no_repr
maybe_repr_of (Some t) = returns t

-- a path with its arguments
abbrev pub Applied : Type 0
Applied = PathData × Reprs

-- one level of a type, with what is inside already seen as data
abbrev pub repr_step : TypeRepr-F ReprData Applied → ReprData
repr_step (TypeRepr-F.Tuple ts) = tuple (reprs_of ts.items)
repr_step (TypeRepr-F.Slice t) = slice t.value
repr_step (TypeRepr-F.Nominal n) = nominal n.0 n.1
repr_step (TypeRepr-F.Associated p a) = associated p a
repr_step (TypeRepr-F.Lifetime l) = of_lifetime l
repr_step (TypeRepr-F.Ref l m t) = reference l m t.value
repr_step (TypeRepr-F.TraitObject n) = trait_object n.0 n.1
repr_step (TypeRepr-F.Fn fs p ts r) =
    function fs.items (path_view p) (reprs_of ts.items) (maybe_repr_of (option_map (λ b. b.value) r))

abbrev pub applied_step : NominalTypeRepr-F ReprData Applied → Applied
applied_step n = (path_view n.path, reprs_of n.types.items)

abbrev pub repr_view : TypeRepr → ReprData
repr_view = fold-TypeRepr ReprData Applied repr_step applied_step

abbrev pub applied_view : NominalTypeRepr → Applied
applied_view = fold-NominalTypeRepr ReprData Applied repr_step applied_step

abbrev pub reprs_view : List TypeRepr → Reprs
reprs_view ts = reprs_of (map repr_view ts)

-- the type of that one name
abbrev pub named_repr : List ℕ → ReprData
named_repr name = nominal (record { absolute = false; ids = name ∷ [] }) no_reprs

-- the type that a parameter stands for
abbrev pub parameter_repr : TypeParameter → ReprData
parameter_repr (parameter.Lifetime l) = of_lifetime l
parameter_repr (parameter.Id a) = named_repr a

pub data LoweredClause : Type 0 where
  for_all : List TypeParameter → LoweredClause → LoweredClause
  has_bound : ReprData → BoundData ReprData → LoweredClause

-- one level of a where clause, with what is inside already seen as data
abbrev pub lowered_clause_step : WhereClause-F LoweredClause → LoweredClause
lowered_clause_step (WhereClause-F.Forall fs c) = for_all fs.items c.value
lowered_clause_step (WhereClause-F.Bound t b) = has_bound (repr_view t) (bound_view repr_view b)

abbrev pub lowered_where_clause_view : WhereClause → LoweredClause
lowered_where_clause_view = fold-WhereClause LoweredClause lowered_clause_step

-- `()`
abbrev pub unit_type : ReprData
unit_type = tuple no_reprs

-- the type of a text that lives so long
abbrev pub str_at : Lifetime → ReprData
str_at l = reference (Some l) false (named_repr (codes "str"))

-- `&'static str`
abbrev pub static_str : ReprData
static_str = str_at (record { 0 = codes "'static" })

abbrev pub input_lifetime : Lifetime
input_lifetime = record { 0 = codes "'input" }

-- `&'input str`
abbrev pub input_str : ReprData
input_str = str_at input_lifetime
