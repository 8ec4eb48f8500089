-- What written types become where no symbol is in them.
use Rattle.std.specs.Prelude.{ℕ, Bool, true, false, ◌||◌, List, [], ◌∷◌}
use Rattle.lalrpop_norm_tree_parts.specs.Paths.{PathData}
use Rattle.lalrpop_norm_tree_parts.specs.Reprs as lowered
use Rattle.lalrpop_norm_tree.specs.Types.{TypeData, tuple, slice, nominal, reference, trait_object, of_lifetime, id, of_symbol}
use Rattle.lalrpop_norm_tree.specs.Types.{function, TypesData, no_types, type_and, MaybeType, no_type, returns}

-- whether the type contains the type of a symbol
abbrev mutual
  pub holds_symbol : TypeData → Bool
  holds_symbol (tuple ts) = any_holds_symbol ts
  holds_symbol (slice t) = holds_symbol t
  holds_symbol (nominal p ts) = any_holds_symbol ts
  holds_symbol (reference l m t) = holds_symbol t
  holds_symbol (trait_object p ts) = any_holds_symbol ts
  holds_symbol (of_lifetime l) = false
  holds_symbol (id a) = false
  holds_symbol (of_symbol k) = true
  holds_symbol (function fs p ts r) = any_holds_symbol ts || result_holds_symbol r

  pub any_holds_symbol : TypesData → Bool
  any_holds_symbol no_types = false
  any_holds_symbol (type_and t ts) = holds_symbol t || any_holds_symbol ts

  pub result_holds_symbol : MaybeType → Bool
  result_holds_symbol no_type = false
  result_holds_symbol (returns t) = holds_symbol t

-- the path that is one name
abbrev pub named_path : List ℕ → PathData
named_path a = record { absolute = false; ids = a ∷ [] }

-- a single name is a path without arguments, and all else stays as written; a symbol has no such type, and counts as unit
abbrev mutual
  pub repr_of : TypeData → lowered.ReprData
  repr_of (tuple ts) = lowered.tuple (all_reprs_of ts)
  repr_of (slice t) = lowered.slice (repr_of t)
  repr_of (nominal p ts) = lowered.nominal p (all_reprs_of ts)
  repr_of (reference l m t) = lowered.reference l m (repr_of t)
  repr_of (trait_object p ts) = lowered.trait_object p (all_reprs_of ts)
  repr_of (of_lifetime l) = lowered.of_lifetime l
  repr_of (id a) = lowered.nominal (named_path a) lowered.no_reprs
  repr_of (of_symbol k) = lowered.tuple lowered.no_reprs
  repr_of (function fs p ts r) = lowered.function fs p (all_reprs_of ts) (result_repr_of r)

  pub all_reprs_of : TypesData → lowered.Reprs
  all_reprs_of no_types = lowered.no_reprs
  all_reprs_of (type_and t ts) = lowered.repr_and (repr_of t) (all_reprs_of ts)

  pub result_repr_of : MaybeType → lowered.MaybeRepr
  result_repr_of no_type = lowered.no_repr
  result_repr_of (returns t) = lowered.returns (repr_of t)
