-- The derivable types of rules: the least fixpoint of the typing rules, which declared types and default alternatives give.
use Rattle.std.specs.Prelude.{filter_map, ◌≡◌, ℕ, Bool, false, ◌||◌, List, [], ◌∷◌, Option, Some, None}
use Rattle.std.specs.Prelude.{bytes_eq, if◌then◌else◌}
use Rattle.lalrpop_norm_tree_names.specs.declared.names.Lifetime.{Lifetime}
use Rattle.lalrpop_norm_tree_names.specs.declared.names.TerminalString.{TerminalString}
use Rattle.lalrpop_norm_tree_names.specs.declared.names.TypeParameter.{TypeParameter}
use Rattle.lalrpop_norm_tree_names.specs.declared.names.TypeParameter.TheVariants as parameter
use Rattle.lalrpop_norm_tree.specs.declared.symbol.Name.{Name}
use Rattle.lalrpop_norm_tree_names.specs.declared.names.Span.{Span}
use Rattle.lalrpop_norm_tree.specs.Items.{AlternativeData, RuleData, GrammarData}
use Rattle.lalrpop_norm_tree.specs.LoweredTypes.{named_path}
use Rattle.lalrpop_norm_tree_parts.specs.Paths.{PathData}
use Rattle.lalrpop_norm_tree_parts.specs.Reprs as lowered
use Rattle.lalrpop_norm_tree_parts.specs.Reprs.{ReprData, Reprs, MaybeRepr}
use Rattle.lalrpop_norm_tree.specs.Symbols.{Kind, terminal, nonterminal, chosen, named, tupled, error_terminal, at}
use Rattle.lalrpop_norm_tree.specs.Symbols.{ArgumentPatterns}
use Rattle.lalrpop_norm_tree.specs.Types.{TypeData, TypesData, MaybeType, tuple, slice, nominal, reference, trait_object}
use Rattle.lalrpop_norm_tree.specs.Types.{of_lifetime, id, of_symbol, function, no_types, type_and, no_type, returns}
use Rattle.lalrpop_norm_theory.specs.Rounds.{In}
use Rattle.lalrpop_norm_model.specs.PlainRules.{all_rules}
use Rattle.lalrpop_norm_model.specs.Sources.{is_default, default_type, is_lookaround}
use Rattle.lalrpop_norm_model.specs.TerminalTypes.{terminal_type, recovery_type, declared_location}

-- ---- associated types

abbrev pub is_parameter_of : List ℕ → TypeParameter → Bool
is_parameter_of name (parameter.Id a) = bytes_eq a name
is_parameter_of name (parameter.Lifetime l) = false

abbrev pub is_type_parameter : List TypeParameter → List ℕ → Bool
is_type_parameter [] name = false
is_type_parameter (p ∷ ps) name = is_parameter_of name p || is_type_parameter ps name

-- a type parameter and the name of a type that is associated with it
abbrev pub associated_in : List TypeParameter → List (List ℕ) → Option (List ℕ × List ℕ)
associated_in ps (a ∷ b ∷ []) = if is_type_parameter ps a then Some (a, b) else None
associated_in ps _ = None

-- the associated type that a path is: it has two parts, the first a type parameter of the grammar
abbrev pub associated_of : GrammarData → PathData → Option (List ℕ × List ℕ)
associated_of g p = associated_in g.type_parameters p.ids

-- ---- rules

abbrev pub IsRule : GrammarData → RuleData → Type 0
IsRule g r = In r (all_rules g)

-- A typing clause of a rule: it makes a written type, or it gives a location.
pub data TypeClause : Type 0 where
  makes : TypeData → TypeClause
  locates : TypeClause

-- the clause of an alternative: a default one makes the type of its sources, a location symbol gives a location; any other has
-- none
abbrev pub alternative_clause : AlternativeData → Option TypeClause
alternative_clause a = if is_default a then Some (makes (default_type a)) else (if is_lookaround a then Some locates else None)

abbrev pub type_clauses_of : Option TypeData → List AlternativeData → List TypeClause
type_clauses_of (Some t) alternatives = makes t ∷ []
type_clauses_of None alternatives = filter_map alternative_clause alternatives

-- the clauses of a rule: only its declared type; without one, those of its alternatives in order
abbrev pub type_clauses : RuleData → List TypeClause
type_clauses r = type_clauses_of r.type_decl r.alternatives

-- ---- the relation

mutual
  -- a rule of that name has the type x
  pub data Has (g : GrammarData) : List ℕ → ReprData → Type 0 where
    by_clause : (r : RuleData) (c : TypeClause) (x : ReprData) → IsRule g r → In c (type_clauses r) →
        Makes g c x → Has g r.name.0 x

  -- a clause makes the type x
  pub data Makes (g : GrammarData) : TypeClause → ReprData → Type 0 where
    makes_type : (t : TypeData) (x : ReprData) → Means g t x → Makes g (makes t) x
    makes_location : (x : ReprData) → declared_location g ≡ Some x → Makes g locates x

  -- a symbol gives the type x
  pub data Gives (g : GrammarData) : Kind → ReprData → Type 0 where
    of_terminal : (t : TerminalString) → Gives g (terminal t) (terminal_type g t)
    of_error : Gives g error_terminal (recovery_type g)
    of_nonterminal : (n : List ℕ) (x : ReprData) → Has g n x → Gives g (nonterminal n) x
    of_chosen : (s : Span) (k : Kind) (x : ReprData) → Gives g k x → Gives g (chosen (at s k)) x
    of_named : (n : Name) (s : Span) (k : Kind) (x : ReprData) → Gives g k x → Gives g (named n (at s k)) x
    of_tupled : (ns : ArgumentPatterns) (s : Span) (k : Kind) (x : ReprData) → Gives g k x → Gives g (tupled ns (at s k)) x

  -- A written type means the type x: each symbol in it gives its type in place of it. A path that is an associated type is
  -- that one, its arguments dropped unread; a single name is a path without arguments; all else stays as it is written.
  pub data Means (g : GrammarData) : TypeData → ReprData → Type 0 where
    means_symbol : (k : Kind) (x : ReprData) → Gives g k x → Means g (of_symbol k) x
    means_associated : (p : PathData) (ts : TypesData) (a b : List ℕ) → associated_of g p ≡ Some (a, b) →
        Means g (nominal p ts) (lowered.associated a b)
    means_nominal : (p : PathData) (ts : TypesData) (xs : Reprs) → associated_of g p ≡ None → MeanAll g ts xs →
        Means g (nominal p ts) (lowered.nominal p xs)
    means_name : (a : List ℕ) → Means g (id a) (lowered.nominal (named_path a) lowered.no_reprs)
    means_tuple : (ts : TypesData) (xs : Reprs) → MeanAll g ts xs → Means g (tuple ts) (lowered.tuple xs)
    means_slice : (t : TypeData) (x : ReprData) → Means g t x → Means g (slice t) (lowered.slice x)
    means_reference : (l : Option Lifetime) (m : Bool) (t : TypeData) (x : ReprData) → Means g t x →
        Means g (reference l m t) (lowered.reference l m x)
    means_object : (p : PathData) (ts : TypesData) (xs : Reprs) → MeanAll g ts xs →
        Means g (trait_object p ts) (lowered.trait_object p xs)
    means_lifetime : (l : Lifetime) → Means g (of_lifetime l) (lowered.of_lifetime l)
    means_function : (fs : List TypeParameter) (p : PathData) (ts : TypesData) (r : MaybeType) (xs : Reprs) (y : MaybeRepr) →
        MeanAll g ts xs → MeansReturn g r y → Means g (function fs p ts r) (lowered.function fs p xs y)

  -- the written types in a list mean these types
  pub data MeanAll (g : GrammarData) : TypesData → Reprs → Type 0 where
    mean_none : MeanAll g no_types lowered.no_reprs
    mean_and : (t : TypeData) (ts : TypesData) (x : ReprData) (xs : Reprs) → Means g t x → MeanAll g ts xs →
        MeanAll g (type_and t ts) (lowered.repr_and x xs)

  pub data MeansReturn (g : GrammarData) : MaybeType → MaybeRepr → Type 0 where
    means_nothing : MeansReturn g no_type lowered.no_repr
    means_returned : (t : TypeData) (x : ReprData) → Means g t x → MeansReturn g (returns t) (lowered.returns x)

-- ---- what is asked of it

-- each rule has a type
abbrev pub IsTotal : GrammarData → Type 0
IsTotal g = (r : RuleData) → IsRule g r → (x : ReprData) × Has g r.name.0 x

-- no name has two types
abbrev pub IsFunctional : GrammarData → Type 0
IsFunctional g = (n : List ℕ) (x y : ReprData) → Has g n x → Has g n y → x ≡ y

-- each rule has exactly one type
pub record HasOneType (g : GrammarData) : Type 0 where
  pub total : IsTotal g
  pub functional : IsFunctional g
