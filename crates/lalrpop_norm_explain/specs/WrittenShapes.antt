-- Where a written tree is none of a ground symbol, in terms of the written language alone.
use Rattle.std.specs.Prelude.{ℕ, suc, ◌+◌, Bool, if◌then◌else◌, nat_eq, nat_le, bytes_eq, List, [], ◌∷◌, ◌++◌, Option, Some, None}
use Rattle.lalrpop_norm_theory.specs.Symbols.{Name, error_terminal, ClosedSymbol, ClosedSymbols, terminal, error, reference, call}
use Rattle.lalrpop_norm_theory.specs.Symbols.{group, star, plus, question, times, wrapped, lookahead, lookbehind, no_symbols}
use Rattle.lalrpop_norm_theory.specs.Symbols.{symbol_and, replicated}
use Rattle.lalrpop_norm_theory.specs.Same.{same_closed_terminal}
use Rattle.lalrpop_norm_theory.specs.Meaning.{Meaning}
use Rattle.lalrpop_norm_theory.specs.WrittenTrees.{WrittenTree, WrittenTrees, leaf, nothing, list, node, no_trees, tree_and}
use Rattle.lalrpop_norm_theory.specs.WrittenTrees.{tree_count}
use Rattle.lalrpop_norm_explain.specs.declared.errors.ExplainFault.TheVariants.{Root as NoRoot, Shape as NoShape}
use Rattle.lalrpop_norm_explain.specs.TreeFaults.{Found, raised}

-- how many symbols there are
abbrev pub symbol_count : ClosedSymbols → ℕ
symbol_count no_symbols = 0
symbol_count (symbol_and g gs) = suc (symbol_count gs)

-- these symbols, if a test holds
abbrev pub only_if : Bool → ClosedSymbols → Option ClosedSymbols
only_if holds gs = if holds then Some gs else None

-- these symbols, if there are any and there is one tree for each
abbrev pub one_tree_each : WrittenTrees → Option ClosedSymbols → Option ClosedSymbols
one_tree_each ts None = None
one_tree_each ts (Some gs) = only_if (nat_eq (tree_count ts) (symbol_count gs)) gs

-- Of which symbols the children of a tree must be trees, if the tree, seen without its children, may be one of a ground symbol.
-- The first line takes the wrappers away, the last says that there are no others.
abbrev pub children_of : Meaning → WrittenTree → ClosedSymbol → Option ClosedSymbols
children_of M t (wrapped w g) = children_of M t g
children_of M (leaf a) (terminal b) = only_if (same_closed_terminal b a) no_symbols
children_of M (leaf a) error = only_if (same_closed_terminal error_terminal a) no_symbols
children_of M nothing lookahead = Some no_symbols
children_of M nothing lookbehind = Some no_symbols
children_of M (list ts) (group gs) = one_tree_each ts (Some gs)
children_of M (list ts) (star x) = Some (replicated (tree_count ts) x)
children_of M (list ts) (plus x) = only_if (nat_le 1 (tree_count ts)) (replicated (tree_count ts) x)
children_of M (list ts) (question x) = only_if (nat_le (tree_count ts) 1) (replicated (tree_count ts) x)
children_of M (list ts) (times n x) = only_if (nat_eq (tree_count ts) n) (replicated n x)
children_of M (node n k ts) (reference m b) = if bytes_eq m n then one_tree_each ts (M.reference_parts m b k) else None
children_of M (node n k ts) (call m args) = if bytes_eq m n then one_tree_each ts (M.call_parts m args k) else None
children_of M _ _ = None

-- the fault of the tree itself, else those below
abbrev pub here_or_below : Option ClosedSymbols → (ClosedSymbols → List Found) → List Found
here_or_below None below = (NoShape, []) ∷ []
here_or_below (Some gs) below = below gs

-- Faults of a tree at a ground symbol: of the tree seen without its children, else of its children, from left to right.
abbrev mutual
  pub misshapen : Meaning → WrittenTree → ClosedSymbol → List Found
  misshapen M (leaf a) g = here_or_below (children_of M (leaf a) g) (λ gs. [])
  misshapen M nothing g = here_or_below (children_of M nothing g) (λ gs. [])
  misshapen M (list ts) g = here_or_below (children_of M (list ts) g) (λ gs. all_misshapen M ts gs 0)
  misshapen M (node n k ts) g = here_or_below (children_of M (node n k ts) g) (λ gs. all_misshapen M ts gs 0)

  -- of the children from an index on
  pub all_misshapen : Meaning → WrittenTrees → ClosedSymbols → ℕ → List Found
  all_misshapen M no_trees gs i = []
  all_misshapen M (tree_and t ts) no_symbols i = []
  all_misshapen M (tree_and t ts) (symbol_and g gs) i = raised i (misshapen M t g) ++ all_misshapen M ts gs (i + 1)

-- faults of a whole tree: it is a node of a rule at which trees may begin, and a tree of that rule by itself
abbrev pub written_faults : Meaning → (Name → Bool) → WrittenTree → List Found
written_faults M roots (node n k ts) = if roots n then misshapen M (node n k ts) (reference n None) else (NoRoot, []) ∷ []
written_faults M roots _ = (NoRoot, []) ∷ []
