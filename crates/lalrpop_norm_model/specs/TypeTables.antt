-- What a table of types makes of written types, and when it is the relation of the derivable types of rules.
use Rattle.std.specs.Prelude.{◌≡◌, ◌↔◌, ℕ, List, Option, Some, None, option_map, IsSome}
use Rattle.lalrpop_norm_tree_names.specs.declared.names.TerminalString.{TerminalString}
use Rattle.lalrpop_norm_tree_names.specs.declared.names.TypeParameter.{TypeParameter}
use Rattle.lalrpop_norm_tree.specs.Items.{RuleData, GrammarData}
use Rattle.lalrpop_norm_tree.specs.LoweredTypes.{named_path}
use Rattle.lalrpop_norm_tree_parts.specs.Paths.{PathData}
use Rattle.lalrpop_norm_tree_parts.specs.Reprs as lowered
use Rattle.lalrpop_norm_tree_parts.specs.Reprs.{ReprData, Reprs, MaybeRepr}
use Rattle.lalrpop_norm_tree.specs.Symbols.{Kind, terminal, nonterminal, error_terminal}
use Rattle.lalrpop_norm_tree.specs.Types.{TypeData, TypesData, MaybeType, tuple, slice, nominal, reference, trait_object}
use Rattle.lalrpop_norm_tree.specs.Types.{of_lifetime, id, of_symbol, function, no_types, type_and, no_type, returns}
use Rattle.lalrpop_norm_theory.specs.Rounds.{In}
use Rattle.lalrpop_norm_tree.specs.Traversal.{wrapped_kind}
use Rattle.lalrpop_norm_model.specs.TerminalTypes.{terminal_type, recovery_type, declared_location}
use Rattle.lalrpop_norm_model.specs.TypeRelation.{associated_in, IsRule, TypeClause, makes, locates, type_clauses, Has}

-- a table: the type of each name that has one
abbrev pub Table : Type 0
Table = List ℕ → Option ReprData

-- the types of terminals, of `!`, and of each name that has one
pub record TypeEnvironment : Type 0 where
  pub terminals : TerminalString → ReprData
  pub recovery : ReprData
  pub names : Table

abbrev pub leaf_type : TypeEnvironment → Kind → Option ReprData
leaf_type e (terminal t) = Some (e.terminals t)
leaf_type e error_terminal = Some e.recovery
leaf_type e (nonterminal n) = e.names n
leaf_type e _ = None

-- the type that a symbol gives: that of the symbol under its wrappers
abbrev pub kind_type : TypeEnvironment → Kind → Option ReprData
kind_type e k = leaf_type e (wrapped_kind k)

-- an associated type, else the path with its arguments
abbrev pub path_value : Option (List ℕ × List ℕ) → PathData → Option Reprs → Option ReprData
path_value (Some a) p v = Some (lowered.associated a.0 a.1)
path_value None p v = option_map (lowered.nominal p) v

-- both, if each is there
abbrev pub both : {A B C : Type 0} → (A → B → C) → Option A → Option B → Option C
both f (Some x) (Some y) = Some (f x y)
both f (Some x) None = None
both f None v = None

-- the type that a written one means beside these type parameters, where each symbol in it gives one
abbrev mutual
  pub type_meant : List TypeParameter → TypeEnvironment → TypeData → Option ReprData
  type_meant ps e (of_symbol k) = kind_type e k
  type_meant ps e (nominal p ts) = path_value (associated_in ps p.ids) p (types_meant ps e ts)
  type_meant ps e (id a) = Some (lowered.nominal (named_path a) lowered.no_reprs)
  type_meant ps e (tuple ts) = option_map lowered.tuple (types_meant ps e ts)
  type_meant ps e (slice t) = option_map lowered.slice (type_meant ps e t)
  type_meant ps e (reference l m t) = option_map (lowered.reference l m) (type_meant ps e t)
  type_meant ps e (trait_object p ts) = option_map (lowered.trait_object p) (types_meant ps e ts)
  type_meant ps e (of_lifetime l) = Some (lowered.of_lifetime l)
  type_meant ps e (function fs p ts r) = both (lowered.function fs p) (types_meant ps e ts) (return_meant ps e r)

  pub types_meant : List TypeParameter → TypeEnvironment → TypesData → Option Reprs
  types_meant ps e no_types = Some lowered.no_reprs
  types_meant ps e (type_and t ts) = both lowered.repr_and (type_meant ps e t) (types_meant ps e ts)

  pub return_meant : List TypeParameter → TypeEnvironment → MaybeType → Option MaybeRepr
  return_meant ps e no_type = Some lowered.no_repr
  return_meant ps e (returns t) = option_map lowered.returns (type_meant ps e t)

-- what a grammar gives types to, with the names of a table
abbrev pub grammar_types : GrammarData → Table → TypeEnvironment
grammar_types g f = record { terminals = terminal_type g; recovery = recovery_type g; names = f }

abbrev pub kind_value : GrammarData → Table → Kind → Option ReprData
kind_value g f k = kind_type (grammar_types g f) k

abbrev pub type_value : GrammarData → Table → TypeData → Option ReprData
type_value g f t = type_meant g.type_parameters (grammar_types g f) t

abbrev pub types_value : GrammarData → Table → TypesData → Option Reprs
types_value g f ts = types_meant g.type_parameters (grammar_types g f) ts

abbrev pub return_value : GrammarData → Table → MaybeType → Option MaybeRepr
return_value g f r = return_meant g.type_parameters (grammar_types g f) r

-- what a clause makes of the table
abbrev pub clause_value : GrammarData → Table → TypeClause → Option ReprData
clause_value g f (makes t) = type_value g f t
clause_value g f locates = declared_location g

-- each type in the table is derivable
abbrev pub IsSound : GrammarData → Table → Type 0
IsSound g f = (n : List ℕ) (x : ReprData) → f n ≡ Some x → Has g n x

-- each type that a clause makes of the table is its rule's in it
abbrev pub IsClosedTable : GrammarData → Table → Type 0
IsClosedTable g f =
    (r : RuleData) → IsRule g r → (c : TypeClause) → In c (type_clauses r) → (x : ReprData) → clause_value g f c
    ≡ Some x → f r.name.0 ≡ Some x

-- each rule of which a clause makes a type of the table has one in it
abbrev pub IsStuck : GrammarData → Table → Type 0
IsStuck g f =
    (r : RuleData) → IsRule g r → (c : TypeClause) → In c (type_clauses r) →
    IsSome (clause_value g f c) → IsSome (f r.name.0)

-- the table is the relation
abbrev pub IsTable : GrammarData → Table → Type 0
IsTable g f = (n : List ℕ) (x : ReprData) → (f n ≡ Some x) ↔ Has g n x
