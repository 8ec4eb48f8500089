-- Written trees, and which of them are trees of a ground symbol.
use Rattle.std.specs.Prelude.{◌≡◌, ℕ, suc, List, [], ◌∷◌, ◌++◌, Some}
use Rattle.lalrpop_norm_theory.specs.Symbols.{Name, Terminal, error_terminal, ClosedSymbol, ClosedSymbols, terminal, error}
use Rattle.lalrpop_norm_theory.specs.Symbols.{reference, call, group, star, plus, question, times, wrapped, lookahead}
use Rattle.lalrpop_norm_theory.specs.Symbols.{lookbehind, no_symbols, symbol_and}
use Rattle.lalrpop_norm_theory.specs.Meaning.{Meaning}

-- A leaf; nothing; a list of trees; or a node, with the name of its rule or macro, the number of its alternative, and its
-- children.
mutual
  pub data WrittenTree : Type 0 where
    leaf : Terminal → WrittenTree
    nothing : WrittenTree
    list : WrittenTrees → WrittenTree
    node : Name → ℕ → WrittenTrees → WrittenTree

  pub data WrittenTrees : Type 0 where
    no_trees : WrittenTrees
    tree_and : WrittenTree → WrittenTrees → WrittenTrees

-- at least one tree
abbrev pub IsNonempty : WrittenTrees → Type 0
IsNonempty no_trees = ⊥
IsNonempty (tree_and t ts) = Unit {0}

-- no tree, or one
abbrev pub IsAtMostOne : WrittenTrees → Type 0
IsAtMostOne no_trees = Unit {0}
IsAtMostOne (tree_and t no_trees) = Unit {0}
IsAtMostOne (tree_and t (tree_and s ts)) = ⊥

-- how many trees there are
abbrev pub tree_count : WrittenTrees → ℕ
tree_count no_trees = 0
tree_count (tree_and t ts) = suc (tree_count ts)

-- The trees of a ground symbol, case by case: the first line takes the wrappers away, the last says that there are no others.
abbrev mutual
  pub IsTreeOf : Meaning → WrittenTree → ClosedSymbol → Type 0
  IsTreeOf M t (wrapped w g) = IsTreeOf M t g
  IsTreeOf M (leaf a) (terminal b) = a ≡ b
  IsTreeOf M (leaf a) error = a ≡ error_terminal
  IsTreeOf M nothing lookahead = Unit {0}
  IsTreeOf M nothing lookbehind = Unit {0}
  IsTreeOf M (list ts) (group gs) = AreTreesOf M ts gs
  IsTreeOf M (list ts) (star x) = EachTreeOf M ts x
  IsTreeOf M (list ts) (plus x) = IsNonempty ts × EachTreeOf M ts x
  IsTreeOf M (list ts) (question x) = IsAtMostOne ts × EachTreeOf M ts x
  IsTreeOf M (list ts) (times n x) = (tree_count ts ≡ n) × EachTreeOf M ts x
  IsTreeOf M (node n k ts) (reference m b) =
      (n ≡ m) × (parts : ClosedSymbols) × (M.reference_parts m b k ≡ Some parts) × AreTreesOf M ts parts
  IsTreeOf M (node n k ts) (call m args) =
      (n ≡ m) × (parts : ClosedSymbols) × (M.call_parts m args k ≡ Some parts) × AreTreesOf M ts parts
  IsTreeOf M _ _ = ⊥

  -- one tree for each symbol
  pub AreTreesOf : Meaning → WrittenTrees → ClosedSymbols → Type 0
  AreTreesOf M no_trees no_symbols = Unit {0}
  AreTreesOf M (tree_and t ts) (symbol_and g gs) = IsTreeOf M t g × AreTreesOf M ts gs
  AreTreesOf M _ _ = ⊥

  -- each of them a tree of x
  pub EachTreeOf : Meaning → WrittenTrees → ClosedSymbol → Type 0
  EachTreeOf M no_trees x = Unit {0}
  EachTreeOf M (tree_and t ts) x = IsTreeOf M t x × EachTreeOf M ts x

-- the word of a tree: its leaves from left to right
abbrev mutual
  pub yield : WrittenTree → List Terminal
  yield (leaf a) = a ∷ []
  yield nothing = []
  yield (list ts) = yields ts
  yield (node n k ts) = yields ts

  pub yields : WrittenTrees → List Terminal
  yields no_trees = []
  yields (tree_and t ts) = yield t ++ yields ts

-- the alternatives of a tree: the rule or macro and the number of each node, a node before its children
abbrev mutual
  pub alternatives : WrittenTree → List (Name × ℕ)
  alternatives (leaf a) = []
  alternatives nothing = []
  alternatives (list ts) = alternatives_of ts
  alternatives (node n k ts) = (n, k) ∷ alternatives_of ts

  pub alternatives_of : WrittenTrees → List (Name × ℕ)
  alternatives_of no_trees = []
  alternatives_of (tree_and t ts) = alternatives t ++ alternatives_of ts

-- one list of trees after the other
abbrev pub append : WrittenTrees → WrittenTrees → WrittenTrees
append no_trees ss = ss
append (tree_and t ts) ss = tree_and t (append ts ss)
