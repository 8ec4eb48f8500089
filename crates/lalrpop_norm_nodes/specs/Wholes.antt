-- What the ids of nodes stand for: interned terms (`Whole`).
use Rattle.std.specs.Prelude.{◌≡◌, ⊤, ℕ, true, false, List, [], ◌∷◌, ◌++◌, map, length, Option, Some, None, slice_get}
use Rattle.lalrpop_norm_tree.specs.declared.symbol.RepeatOp.TheVariants.{Star, Plus, Question, Times}
use Rattle.lalrpop_norm_tree.specs.Symbols.{ArgumentPattern, one_name, several, argument_patterns_of, Kind, Part, parts_of, group}
use Rattle.lalrpop_norm_tree.specs.Symbols.{terminal, nonterminal, call, repeated, chosen, named, tupled, lookahead}
use Rattle.lalrpop_norm_tree.specs.Symbols.{lookbehind, error_terminal, at}
use Rattle.lalrpop_norm_nodes.specs.Apart.{nowhere}
use Rattle.lalrpop_norm_nodes.specs.declared.node.Node.{Node}
use Rattle.lalrpop_norm_nodes.specs.declared.node.Node.TheVariants as node
use Rattle.lalrpop_norm_nodes.specs.declared.node.Leaf.TheVariants as leaf
use Rattle.lalrpop_norm_nodes.specs.declared.node.NamedLeaf.TheVariants as named_leaf
use Rattle.lalrpop_norm_nodes.specs.declared.node.Unary.TheVariants as unary
use Rattle.lalrpop_norm_nodes.specs.declared.node.NamedUnary.TheVariants as named_unary
use Rattle.lalrpop_norm_nodes.specs.declared.node.Binary.TheVariants as binary
use Rattle.lalrpop_norm_nodes.specs.declared.node.Nodes.{Nodes}

-- what an id stands for, an interned term: a symbol with its spans taken off, such symbols in a row, a pattern, or patterns in a
-- row
pub data Whole : Type 0 where
  one_symbol : Kind → Whole
  symbols : List Part → Whole
  one_pattern : ArgumentPattern → Whole
  patterns : List ArgumentPattern → Whole

abbrev pub as_kind : Option Whole → Kind
as_kind (Some (one_symbol k)) = k
as_kind _ = error_terminal

abbrev pub as_symbols : Option Whole → List Part
as_symbols (Some (symbols ps)) = ps
as_symbols _ = []

abbrev pub as_pattern : Option Whole → ArgumentPattern
as_pattern (Some (one_pattern p)) = p
as_pattern _ = several (argument_patterns_of [])

abbrev pub as_patterns : Option Whole → List ArgumentPattern
as_patterns (Some (patterns ps)) = ps
as_patterns _ = []

-- the symbol of an id, and likewise for the other kinds
abbrev pub kind_at : List Whole → ℕ → Kind
kind_at ws n = as_kind (slice_get ws n)

abbrev pub part_at : List Whole → ℕ → Part
part_at ws n = at nowhere (kind_at ws n)

abbrev pub symbols_at : List Whole → ℕ → List Part
symbols_at ws n = as_symbols (slice_get ws n)

abbrev pub pattern_at : List Whole → ℕ → ArgumentPattern
pattern_at ws n = as_pattern (slice_get ws n)

abbrev pub patterns_at : List Whole → ℕ → List ArgumentPattern
patterns_at ws n = as_patterns (slice_get ws n)

-- what a node stands for, where its parts stand for these
abbrev pub built : List Whole → Node → Whole
built ws (node.Leaf leaf.NoSymbols) = symbols []
built ws (node.Binary binary.Symbols l n) = symbols (symbols_at ws l ++ part_at ws n ∷ [])
built ws (node.Leaf leaf.NoPatterns) = patterns []
built ws (node.Binary binary.Patterns l n) = patterns (patterns_at ws l ++ pattern_at ws n ∷ [])
built ws (node.NamedLeaf named_leaf.Pattern a) = one_pattern (one_name (record { mutable = false; name = a }))
built ws (node.NamedLeaf named_leaf.MutPattern a) = one_pattern (one_name (record { mutable = true; name = a }))
built ws (node.Unary unary.Several l) = one_pattern (several (argument_patterns_of (patterns_at ws l)))
built ws (node.NamedLeaf named_leaf.Rule a) = one_symbol (nonterminal a)
built ws (node.Terminal t) = one_symbol (terminal t)
built ws (node.Unary unary.Group l) = one_symbol (group (parts_of (symbols_at ws l)))
built ws (node.NamedUnary named_unary.Call a l) = one_symbol (call a (parts_of (symbols_at ws l)))
built ws (node.Unary unary.Star n) = one_symbol (repeated Star (part_at ws n))
built ws (node.Unary unary.Plus n) = one_symbol (repeated Plus (part_at ws n))
built ws (node.Unary unary.Question n) = one_symbol (repeated Question (part_at ws n))
built ws (node.Unary (unary.Times c) n) = one_symbol (repeated (Times c) (part_at ws n))
built ws (node.Unary unary.Chosen n) = one_symbol (chosen (part_at ws n))
built ws (node.NamedUnary named_unary.Named a n) = one_symbol (named (record { mutable = false; name = a }) (part_at ws n))
built ws (node.NamedUnary named_unary.NamedMut a n) = one_symbol (named (record { mutable = true; name = a }) (part_at ws n))
built ws (node.Binary binary.Tuple l n) = one_symbol (tupled (argument_patterns_of (patterns_at ws l)) (part_at ws n))
built ws (node.Leaf leaf.Lookahead) = one_symbol lookahead
built ws (node.Leaf leaf.Lookbehind) = one_symbol lookbehind
built ws (node.Leaf leaf.Error) = one_symbol error_terminal

-- the id stands for a symbol, and likewise for the other kinds
abbrev pub IsKind : List Whole → ℕ → Type 0
IsKind ws n = slice_get ws n ≡ Some (one_symbol (kind_at ws n))

abbrev pub AreSymbols : List Whole → ℕ → Type 0
AreSymbols ws n = slice_get ws n ≡ Some (symbols (symbols_at ws n))

abbrev pub IsPattern : List Whole → ℕ → Type 0
IsPattern ws n = slice_get ws n ≡ Some (one_pattern (pattern_at ws n))

abbrev pub ArePatterns : List Whole → ℕ → Type 0
ArePatterns ws n = slice_get ws n ≡ Some (patterns (patterns_at ws n))

-- the ids in a node stand for what it holds
abbrev pub Fits : List Whole → Node → Type 0
Fits ws (node.Leaf leaf.NoSymbols) = ⊤
Fits ws (node.Binary binary.Symbols l n) = AreSymbols ws l × IsKind ws n
Fits ws (node.Leaf leaf.NoPatterns) = ⊤
Fits ws (node.Binary binary.Patterns l n) = ArePatterns ws l × IsPattern ws n
Fits ws (node.NamedLeaf named_leaf.Pattern a) = ⊤
Fits ws (node.NamedLeaf named_leaf.MutPattern a) = ⊤
Fits ws (node.Unary unary.Several l) = ArePatterns ws l
Fits ws (node.NamedLeaf named_leaf.Rule a) = ⊤
Fits ws (node.Terminal t) = ⊤
Fits ws (node.Unary unary.Group l) = AreSymbols ws l
Fits ws (node.NamedUnary named_unary.Call a l) = AreSymbols ws l
Fits ws (node.Unary unary.Star n) = IsKind ws n
Fits ws (node.Unary unary.Plus n) = IsKind ws n
Fits ws (node.Unary unary.Question n) = IsKind ws n
Fits ws (node.Unary (unary.Times c) n) = IsKind ws n
Fits ws (node.Unary unary.Chosen n) = IsKind ws n
Fits ws (node.NamedUnary named_unary.Named a n) = IsKind ws n
Fits ws (node.NamedUnary named_unary.NamedMut a n) = IsKind ws n
Fits ws (node.Binary binary.Tuple l n) = ArePatterns ws l × IsKind ws n
Fits ws (node.Leaf leaf.Lookahead) = ⊤
Fits ws (node.Leaf leaf.Lookbehind) = ⊤
Fits ws (node.Leaf leaf.Error) = ⊤

-- the nodes in the order of their ids
abbrev pub nodes_of : Nodes → List Node
nodes_of t = map (λ e. e.0) t.rows.entries

-- the text of each, if it is desugared
abbrev pub texts_of : Nodes → List (Option (List ℕ))
texts_of t = map (λ e. e.1) t.rows.entries

-- what the ids stand for, id after id
abbrev pub wholes_on : List Whole → List Node → List Whole
wholes_on ws [] = ws
wholes_on ws (n ∷ ns) = wholes_on (ws ++ built ws n ∷ []) ns

abbrev pub wholes : Nodes → List Whole
wholes t = wholes_on [] (nodes_of t)

-- ---- that the ids stand for these

abbrev pub StandsFor : List Whole → ℕ → Whole → Type 0
StandsFor ws i w = slice_get ws i ≡ Some w

abbrev pub IsNew : List Whole → Whole → Type 0
IsNew ws w = (i : ℕ) → slice_get ws i ≡ Some w → ⊥

-- each node's parts have lower ids of their kind, and no two ids stand for the same
pub record AreRows (ns : List Node) (ws : List Whole) : Type 0 where
  pub long : length ws ≡ length ns
  pub fit : (i : ℕ) (n : Node) → slice_get ns i ≡ Some n → Fits ws n
  pub stand : (i : ℕ) (n : Node) → slice_get ns i ≡ Some n → slice_get ws i ≡ Some (built ws n)
  pub apart : (i j : ℕ) (w : Whole) → slice_get ws i ≡ Some w → slice_get ws j ≡ Some w → i ≡ j

abbrev pub AreNodes : Nodes → Type 0
AreNodes t = AreRows (nodes_of t) (wholes t)

-- what is not desugared was there, or was added last, without a text
pub data EntersPlain (before later : Nodes) (w : Whole) : Type 0 where
  stood : wholes later ≡ wholes before → texts_of later ≡ texts_of before → EntersPlain before later w
  came_last : wholes later ≡ wholes before ++ w ∷ [] → texts_of later ≡ texts_of before ++ None ∷ [] → EntersPlain before later w

-- what was there stays, and more may be behind it
abbrev pub Grows : List Whole → List Whole → Type 0
Grows ws vs = (more : List Whole) × (vs ≡ ws ++ more)
