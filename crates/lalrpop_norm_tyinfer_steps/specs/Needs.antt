-- The names whose types a clause is made of, and the numbers that represent them.
use Rattle.std.specs.Prelude.{◌≡◌, ◌<◌, ◌⊎◌, ℕ, List, [], ◌++◌, map, length, Option, Some, None, slice_get}
use Rattle.lalrpop_norm_tree_names.specs.declared.names.TypeParameter.{TypeParameter}
use Rattle.lalrpop_norm_tree.specs.Types.{TypeData, TypesData, MaybeType, tuple, slice, nominal, reference, trait_object}
use Rattle.lalrpop_norm_tree.specs.Types.{of_lifetime, id, of_symbol, function, no_types, type_and, no_type, returns}
use Rattle.lalrpop_norm_theory.specs.Rounds.{In}
use Rattle.lalrpop_norm_model.specs.Expanded.{names_in_kind}
use Rattle.lalrpop_norm_model.specs.TypeRelation.{associated_in, TypeClause, makes, locates}
use Rattle.lalrpop_norm_tyinfer_steps.specs.declared.needs.Need.{Need}
use Rattle.lalrpop_norm_tyinfer_steps.specs.Visits.{Seen}

-- ---- names

-- the arguments of a path, which of an associated type are not read
abbrev pub needed_path : {A : Type 0} → Option A → List (List ℕ) → List (List ℕ)
needed_path (Some a) ns = []
needed_path None ns = ns

-- the names whose types a written type is made of: without one of them it means nothing
abbrev mutual
  pub needed_type : List TypeParameter → TypeData → List (List ℕ)
  needed_type ps (of_symbol k) = names_in_kind k
  needed_type ps (nominal p ts) = needed_path (associated_in ps p.ids) (needed_types ps ts)
  needed_type ps (id a) = []
  needed_type ps (tuple ts) = needed_types ps ts
  needed_type ps (slice t) = needed_type ps t
  needed_type ps (reference l m t) = needed_type ps t
  needed_type ps (trait_object p ts) = needed_types ps ts
  needed_type ps (of_lifetime l) = []
  needed_type ps (function fs p ts r) = needed_types ps ts ++ needed_return ps r

  pub needed_types : List TypeParameter → TypesData → List (List ℕ)
  needed_types ps no_types = []
  needed_types ps (type_and t ts) = needed_type ps t ++ needed_types ps ts

  pub needed_return : List TypeParameter → MaybeType → List (List ℕ)
  needed_return ps no_type = []
  needed_return ps (returns t) = needed_type ps t

-- those that a clause is made of
abbrev pub needed_in : List TypeParameter → TypeClause → List (List ℕ)
needed_in ps (makes t) = needed_type ps t
needed_in ps locates = []

-- ---- numbers

-- the names of rules
abbrev pub names_seen : List Seen → List (List ℕ)
names_seen ss = map (λ s. s.0.name.0) ss

-- a name of a rule has the index of one such rule, and no other name has a number
pub record AreRuleNumbers (number : List ℕ → Option ℕ) (names : List (List ℕ)) : Type 0 where
  pub right : (n : List ℕ) (k : ℕ) → number n ≡ Some k → slice_get names k ≡ Some n
  pub all : (n : List ℕ) → number n ≡ None → In n names → ⊥

-- what a clause of that rule needs, by number
pub record IsNeedOf (number : List ℕ → Option ℕ) (ps : List TypeParameter) (c : TypeClause) (rule : ℕ) (n : Need) : Type 0 where
  pub rule_is : n.rule ≡ rule
  pub numbers_are : n.numbers.items ≡ map number (needed_in ps c)

-- what the clauses of a rule need is added
pub record AddsNeeds (number : List ℕ → Option ℕ) (ps : List TypeParameter) (before after : List Need) (cs : List TypeClause) (rule : ℕ) : Type 0 where
  pub kept : (n : Need) → In n before → In n after
  pub all : (c : TypeClause) → In c cs → (n : Need) × In n after × IsNeedOf number ps c rule n
  pub only : (n : Need) → In n after → In n before ⊎ ((c : TypeClause) × IsNeedOf number ps c rule n)

-- what the clauses of some rules need
pub record AreNeeds (number : List ℕ → Option ℕ) (ps : List TypeParameter) (ss : List Seen) (needs : List Need) : Type 0 where
  pub all : (k : ℕ) (s : Seen) (c : TypeClause) → slice_get ss k ≡ Some s → In c s.1 → (n : Need) × In n needs × IsNeedOf number ps c k n
  pub only : (n : Need) → In n needs → (n.rule < length ss) × ((c : TypeClause) × IsNeedOf number ps c n.rule n)
