-- Names for the anonymous lifetimes of a lowered type, and what its references imply.
use Rattle.std.specs.Prelude.{ℕ, Bool, false, ◌&&◌, List, [], ◌∷◌, ◌++◌, length, map, Option, Some}
use Rattle.std.specs.Prelude.{None, if◌then◌else◌, bytes_eq, codes}
use Rattle.lalrpop_norm_tree_names.specs.declared.names.Lifetime.{Lifetime}
use Rattle.lalrpop_norm_tree_names.specs.declared.names.TypeParameter.{TypeParameter}
use Rattle.lalrpop_norm_tree_names.specs.declared.names.TypeParameter.TheVariants as parameter
use Rattle.lalrpop_norm_tree_parts.specs.declared.lowered.WhereClause.{WhereClause}
use Rattle.lalrpop_norm_tree_names.specs.NewLifetimes.{numbered_lifetime}
use Rattle.lalrpop_norm_tree_parts.specs.Accessors.{single_name}
use Rattle.lalrpop_norm_tree_parts.specs.Bounds.{lifetime_bound}
use Rattle.lalrpop_norm_tree_parts.specs.FreeVariables.{with_new, free_in}
use Rattle.lalrpop_norm_tree_parts.specs.Reprs.{ReprData, Reprs, MaybeRepr, tuple, slice, nominal, associated, of_lifetime}
use Rattle.lalrpop_norm_tree_parts.specs.Reprs.{reference, trait_object, function, no_reprs, repr_and, no_repr, returns}
use Rattle.lalrpop_norm_tree_parts.specs.Reprs.{parameter_repr, LoweredClause, has_bound, lowered_where_clause_view}

-- ---- clauses

-- `P: 'l`
abbrev pub outlives : Lifetime → TypeParameter → LoweredClause
outlives l p = has_bound (parameter_repr p) (lifetime_bound l)

abbrev pub is_name : Option (List ℕ) → List ℕ → Bool
is_name None a = false
is_name (Some b) a = bytes_eq b a

-- whether a type is what the parameter stands for
abbrev pub is_parameter : TypeParameter → ReprData → Bool
is_parameter (parameter.Lifetime l) (of_lifetime m) = bytes_eq m.0 l.0
is_parameter (parameter.Id a) (nominal p no_reprs) = is_name (single_name p) a
is_parameter _ _ = false

-- whether a clause is `P: 'l`
abbrev pub is_outlives : Lifetime → TypeParameter → LoweredClause → Bool
is_outlives l p (has_bound t (lifetime_bound m)) = bytes_eq m.0 l.0 && is_parameter p t
is_outlives l p _ = false

-- with `P: 'l` for each of ps, where that clause is not there yet
abbrev pub with_outlives : Lifetime → List LoweredClause → List TypeParameter → List LoweredClause
with_outlives l cs ps = with_new (is_outlives l) (outlives l) cs ps

-- ---- names

-- the type parameters and the where clauses of a grammar
pub record Scope : Type 0 where
  pub parameters : List TypeParameter
  pub clauses : List LoweredClause

abbrev pub scope_of : List TypeParameter → List WhereClause → Scope
scope_of ps cs = record { parameters = ps; clauses = map lowered_where_clause_view cs }

-- the number is how many parameters there are
abbrev pub new_lifetime : List ℕ → Scope → Lifetime
new_lifetime prefix s = numbered_lifetime prefix (length s.parameters)

abbrev pub with_lifetime : Lifetime → Scope → Scope
with_lifetime l s = record { parameters = s.parameters ++ parameter.Lifetime l ∷ []; clauses = s.clauses }

-- a lifetime as a type: `'_` gets a name
abbrev pub lifetime_named : List ℕ → Lifetime → Scope → ReprData × Scope
lifetime_named prefix l s =
    if bytes_eq l.0 (codes "'_")
    then (of_lifetime (new_lifetime prefix s), with_lifetime (new_lifetime prefix s) s) else (of_lifetime l, s)

-- a reference with a lifetime: what is free in its referent outlives it
abbrev pub outlived : Lifetime → Bool → ReprData → Scope → ReprData × Scope
outlived l m t s =
    (reference (Some l) m t, record { parameters = s.parameters; clauses = with_outlives l s.clauses (free_in s.parameters t) })

-- a reference: it gets a lifetime where it has none
abbrev pub reference_named : List ℕ → Option Lifetime → Bool → ReprData → Scope → ReprData × Scope
reference_named prefix None m t s = outlived (new_lifetime prefix s) m t (with_lifetime (new_lifetime prefix s) s)
reference_named prefix (Some l) m t s = outlived l m t s

-- a type whose parts have their names
abbrev pub named_here : List ℕ → ReprData → Scope → ReprData × Scope
named_here prefix (of_lifetime l) s = lifetime_named prefix l s
named_here prefix (reference l m t) s = reference_named prefix l m t s
named_here prefix t s = (t, s)

-- each type after its parts, from left to right
abbrev mutual
  pub named : List ℕ → ReprData → Scope → ReprData × Scope
  named prefix (tuple ts) s = let us = all_named prefix ts s in (tuple us.0, us.1)
  named prefix (slice t) s = let u = named prefix t s in (slice u.0, u.1)
  named prefix (nominal p ts) s = let us = all_named prefix ts s in (nominal p us.0, us.1)
  named prefix (associated a b) s = (associated a b, s)
  named prefix (of_lifetime l) s = lifetime_named prefix l s
  named prefix (reference l m t) s = let u = named prefix t s in reference_named prefix l m u.0 u.1
  named prefix (trait_object p ts) s = let us = all_named prefix ts s in (trait_object p us.0, us.1)
  named prefix (function fs p ts r) s =
      let us = all_named prefix ts s in
      let v = return_named prefix r us.1 in (function fs p us.0 v.0, v.1)

  pub all_named : List ℕ → Reprs → Scope → Reprs × Scope
  all_named prefix no_reprs s = (no_reprs, s)
  all_named prefix (repr_and t ts) s = let u = named prefix t s in let us = all_named prefix ts u.1 in (repr_and u.0 us.0, us.1)

  pub return_named : List ℕ → MaybeRepr → Scope → MaybeRepr × Scope
  return_named prefix no_repr s = (no_repr, s)
  return_named prefix (returns t) s = let u = named prefix t s in (returns u.0, u.1)
