-- Lowered grammars, where each production has its origin, and their trees.
use Rattle.std.specs.Prelude.{◌≡◌, ℕ, List, [], ◌∷◌, ◌++◌, slice_get, Option, Some, None}
use Rattle.lalrpop_norm_theory.specs.Symbols.{Name, Terminal}

-- a symbol of a production
pub data LoweredSymbol : Type 0 where
  terminal_symbol : Terminal → LoweredSymbol
  nonterminal_symbol : Name → LoweredSymbol

-- Where a production comes from: a start symbol; an alternative of a rule or macro, by its written index; the step from a level
-- to the one below; a group; a production of a repeat; a location symbol.
pub data Origin : Type 0 where
  from_start : Origin
  written : Name → ℕ → Origin
  level_step from_group : Origin
  star_empty star_some plus_one plus_more question_some question_empty from_times : Origin
  from_lookahead from_lookbehind : Origin

-- a production: its origin, and its symbols
pub record Production : Type 0 where
  pub origin : Origin
  pub symbols : List LoweredSymbol

-- a lowered grammar: the productions of each name, in order
abbrev pub ProductionTable : Type 0
ProductionTable = Name → List Production

-- a leaf, or a node: a nonterminal, the index of one of its productions, and its children
mutual
  pub data LoweredTree : Type 0 where
    lowered_leaf : Terminal → LoweredTree
    lowered_node : Name → ℕ → LoweredTrees → LoweredTree

  pub data LoweredTrees : Type 0 where
    no_lowered : LoweredTrees
    lowered_and : LoweredTree → LoweredTrees → LoweredTrees

-- the derivation trees of a symbol: at each node is the production, and each child is a tree of its symbol
abbrev mutual
  pub IsDerivation : ProductionTable → LoweredTree → LoweredSymbol → Type 0
  IsDerivation P (lowered_leaf a) s = s ≡ terminal_symbol a
  IsDerivation P (lowered_node n p us) s =
      (s ≡ nonterminal_symbol n) × (q : Production) × (slice_get (P n) p ≡ Some q) × AreDerivations P us q.symbols

  pub AreDerivations : ProductionTable → LoweredTrees → List LoweredSymbol → Type 0
  AreDerivations P no_lowered [] = Unit {0}
  AreDerivations P no_lowered (s ∷ ss) = ⊥
  AreDerivations P (lowered_and u us) [] = ⊥
  AreDerivations P (lowered_and u us) (s ∷ ss) = IsDerivation P u s × AreDerivations P us ss

-- the word of a lowered tree: its leaves from left to right
abbrev mutual
  pub lowered_yield : LoweredTree → List Terminal
  lowered_yield (lowered_leaf a) = a ∷ []
  lowered_yield (lowered_node n p us) = lowered_yields us

  pub lowered_yields : LoweredTrees → List Terminal
  lowered_yields no_lowered = []
  lowered_yields (lowered_and u us) = lowered_yield u ++ lowered_yields us

-- the written alternative that an origin is, if it is one
abbrev pub written_of : Origin → List (Name × ℕ)
written_of (written n k) = (n, k) ∷ []
written_of _ = []

-- that of a production, if there is one
abbrev pub written_at : Option Production → List (Name × ℕ)
written_at None = []
written_at (Some q) = written_of q.origin

-- the origins of a tree's productions that are written alternatives, a node before its children
abbrev mutual
  pub written_origins : ProductionTable → LoweredTree → List (Name × ℕ)
  written_origins P (lowered_leaf a) = []
  written_origins P (lowered_node n p us) = written_at (slice_get (P n) p) ++ written_origins_of P us

  pub written_origins_of : ProductionTable → LoweredTrees → List (Name × ℕ)
  written_origins_of P no_lowered = []
  written_origins_of P (lowered_and u us) = written_origins P u ++ written_origins_of P us
