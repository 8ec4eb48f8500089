-- The first of two steps: written trees within bounds, and the trees of the grammar with levels read without bounds.
use Rattle.std.specs.Prelude.{◌≡◌, ℕ, zero, suc, List, [], ◌++◌, slice_get, length, Option, Some, None, unwrap_or}
use Rattle.lalrpop_norm_theory.specs.Symbols.{Name, Terminal, error_terminal, Wrapper, ClosedSymbol, ClosedSymbols, terminal}
use Rattle.lalrpop_norm_theory.specs.Symbols.{error, reference, call, group, star, plus, question, times, wrapped, lookahead}
use Rattle.lalrpop_norm_theory.specs.Symbols.{lookbehind, no_symbols, symbol_and, only}
use Rattle.lalrpop_norm_theory.specs.Meaning.{Meaning}
use Rattle.lalrpop_norm_theory.specs.WrittenTrees.{WrittenTree, WrittenTrees, leaf, nothing, list, node, no_trees, tree_and}
use Rattle.lalrpop_norm_theory.specs.WrittenTrees.{IsNonempty, IsAtMostOne, tree_count}
use Rattle.lalrpop_norm_theory.specs.LoweredTrees.{Origin, written, level_step, written_of}
use Rattle.lalrpop_norm_theory.specs.Clauses.{Clause, clause, clauses, own_clauses}
use Rattle.lalrpop_norm_theory.specs.Translations.{made_by, lowered_place}
use Rattle.lalrpop_norm_theory.specs.Leveled.{level_reference, leveled_symbols}

-- Steps M L l g t m: the written tree t of g and the tree m of the grammar with levels, L, correspond. A node of a rule has the
-- index of its clause in its level's rule, below a step for each level that the bound lies above it. A node of a macro has the
-- number that its clause has in the same call there; all else is kept.
mutual
  pub data Steps (M L : Meaning) (l : Name → ℕ → Name) : ClosedSymbol → WrittenTree → WrittenTree → Type 0 where
    terminal_kept : (a : Terminal) → Steps M L l (terminal a) (leaf a) (leaf a)
    error_kept : Steps M L l error (leaf error_terminal) (leaf error_terminal)
    wrapped_kept : (w : Wrapper) (g : ClosedSymbol) (t m : WrittenTree) → Steps M L l g t m → Steps M L l (wrapped w g) t m
    lookahead_kept : Steps M L l lookahead nothing nothing
    lookbehind_kept : Steps M L l lookbehind nothing nothing
    group_kept : (gs : ClosedSymbols) (ts ms : WrittenTrees) → AllSteps M L l gs ts ms →
        Steps M L l (group gs) (list ts) (list ms)
    star_kept : (x : ClosedSymbol) (ts ms : WrittenTrees) → EachSteps M L l x ts ms → Steps M L l (star x) (list ts) (list ms)
    plus_kept : (x : ClosedSymbol) (ts ms : WrittenTrees) → IsNonempty ts → EachSteps M L l x ts ms →
        Steps M L l (plus x) (list ts) (list ms)
    question_kept : (x : ClosedSymbol) (ts ms : WrittenTrees) → IsAtMostOne ts → EachSteps M L l x ts ms →
        Steps M L l (question x) (list ts) (list ms)
    times_kept : (n : ℕ) (x : ClosedSymbol) (ts ms : WrittenTrees) → tree_count ts ≡ n → EachSteps M L l x ts ms →
        Steps M L l (times n x) (list ts) (list ms)
    call_kept : (n : Name) (k j p : ℕ) (args parts : ClosedSymbols) (ts ms : WrittenTrees) →
        M.call_parts n args k ≡ Some parts →
        slice_get (clauses M (call n args)) p ≡ Some (clause (written n k) parts) →
        slice_get (clauses L (call n (leveled_symbols l args))) p ≡ Some (clause (written n j) (leveled_symbols l parts)) →
        AllSteps M L l parts ts ms → Steps M L l (call n args) (node n k ts) (node n j ms)
    at_level : (n : Name) (k p : ℕ) (b : Option ℕ) (parts : ClosedSymbols) (ts ms : WrittenTrees) →
        M.own_parts n b k ≡ Some parts →
        slice_get (clauses M (reference n b)) p ≡ Some (clause (written n k) parts) →
        AllSteps M L l parts ts ms → Steps M L l (reference n b) (node n k ts) (node (level_reference l n b) p ms)
    below_level : (n : Name) (p : ℕ) (b c : Option ℕ) (t m : WrittenTree) → M.previous n b ≡ Some c →
        slice_get (clauses M (reference n b)) p ≡ Some (clause level_step (only (reference n c))) →
        Steps M L l (reference n c) t m → Steps M L l (reference n b) t (node (level_reference l n b) p (tree_and m no_trees))

  -- one by one, symbol by symbol
  pub data AllSteps (M L : Meaning) (l : Name → ℕ → Name) : ClosedSymbols → WrittenTrees → WrittenTrees → Type 0 where
    all_done : AllSteps M L l no_symbols no_trees no_trees
    all_and : (g : ClosedSymbol) (gs : ClosedSymbols) (t : WrittenTree) (ts : WrittenTrees)
        (m : WrittenTree) (ms : WrittenTrees) →
        Steps M L l g t m → AllSteps M L l gs ts ms → AllSteps M L l (symbol_and g gs) (tree_and t ts) (tree_and m ms)

  -- one by one, all of one symbol
  pub data EachSteps (M L : Meaning) (l : Name → ℕ → Name) : ClosedSymbol → WrittenTrees → WrittenTrees → Type 0 where
    each_done : (x : ClosedSymbol) → EachSteps M L l x no_trees no_trees
    each_and : (x : ClosedSymbol) (t : WrittenTree) (ts : WrittenTrees) (m : WrittenTree) (ms : WrittenTrees) →
        Steps M L l x t m → EachSteps M L l x ts ms → EachSteps M L l x (tree_and t ts) (tree_and m ms)

-- back, by the origins: the written tree of a tree of the grammar with levels
abbrev mutual
  pub unleveled_tree : (Name → ℕ → Origin) → WrittenTree → WrittenTree
  unleveled_tree origin (leaf a) = leaf a
  unleveled_tree origin nothing = nothing
  unleveled_tree origin (list ms) = list (unleveled_each origin ms)
  unleveled_tree origin (node n p ms) = made_by (origin n p) (unleveled_each origin ms)

  pub unleveled_each : (Name → ℕ → Origin) → WrittenTrees → WrittenTrees
  unleveled_each origin no_trees = no_trees
  unleveled_each origin (tree_and m ms) = tree_and (unleveled_tree origin m) (unleveled_each origin ms)

-- the alternatives of a tree of the grammar with levels that are written ones, by their origins
abbrev mutual
  pub written_alternatives : (Name → ℕ → Origin) → WrittenTree → List (Name × ℕ)
  written_alternatives origin (leaf a) = []
  written_alternatives origin nothing = []
  written_alternatives origin (list ms) = written_alternatives_of origin ms
  written_alternatives origin (node n p ms) = written_of (origin n p) ++ written_alternatives_of origin ms

  pub written_alternatives_of : (Name → ℕ → Origin) → WrittenTrees → List (Name × ℕ)
  written_alternatives_of origin no_trees = []
  written_alternatives_of origin (tree_and m ms) = written_alternatives origin m ++ written_alternatives_of origin ms

-- forward: the node of alternative k of the rule n, below the steps from the bound b to its level, `depth` of them at most
abbrev pub own_level : Meaning → (Name → ℕ → Name) → Name → ℕ → (ClosedSymbols → WrittenTrees) →
    Option ℕ → Option ClosedSymbols → WrittenTree → WrittenTree
own_level M l n k children b None below = below
own_level M l n k children b (Some parts) below =
    node (level_reference l n b) (lowered_place (M.own_parts n b) 0 k) (children parts)

-- a step to the level below, if there is one
abbrev pub step_level : Meaning → (Name → ℕ → Name) → Name → Option ℕ → Option (Option ℕ) →
    (Option ℕ → WrittenTree) → WrittenTree
step_level M l n b None below = nothing
step_level M l n b (Some c) below = node (level_reference l n b) (length (own_clauses M n b)) (tree_and (below c) no_trees)

-- the level's own alternatives first, else a step, as often as there are levels
abbrev pub tree_through_levels : Meaning → (Name → ℕ → Name) → Name → ℕ → (ClosedSymbols → WrittenTrees) →
    ℕ → Option ℕ → WrittenTree
tree_through_levels M l n k children zero b = own_level M l n k children b (M.own_parts n b k) nothing
tree_through_levels M l n k children (suc depth) b =
    own_level M l n k children b (M.own_parts n b k)
    (step_level M l n b (M.previous n b) (λ c. tree_through_levels M l n k children depth c))

-- the number of the written alternative of an origin, and of a clause
abbrev pub origin_number : Origin → ℕ
origin_number (written n k) = k
origin_number _ = 0

abbrev pub clause_number : Option Clause → ℕ
clause_number None = 0
clause_number (Some c) = origin_number c.origin

-- the tree in the grammar with levels of a written tree of a ground symbol
abbrev mutual
  pub leveled_tree : Meaning → Meaning → (Name → ℕ → Name) → WrittenTree → ClosedSymbol → WrittenTree
  leveled_tree M L l t (wrapped w g) = leveled_tree M L l t g
  leveled_tree M L l (list ts) (group gs) = list (leveled_all M L l ts gs)
  leveled_tree M L l (list ts) (star x) = list (leveled_each M L l ts x)
  leveled_tree M L l (list ts) (plus x) = list (leveled_each M L l ts x)
  leveled_tree M L l (list ts) (question x) = list (leveled_each M L l ts x)
  leveled_tree M L l (list ts) (times n x) = list (leveled_each M L l ts x)
  leveled_tree M L l (node n k ts) (reference m b) = tree_through_levels M l m k (λ gs. leveled_all M L l ts gs) (M.depth m b) b
  leveled_tree M L l (node n k ts) (call m args) =
      node m (clause_number (slice_get (clauses L (call m (leveled_symbols l args))) (lowered_place (M.call_parts m args) 0 k)))
      (leveled_all M L l ts (unwrap_or (M.call_parts m args k) no_symbols))
  leveled_tree M L l t _ = t

  pub leveled_all : Meaning → Meaning → (Name → ℕ → Name) → WrittenTrees → ClosedSymbols → WrittenTrees
  leveled_all M L l (tree_and t ts) (symbol_and g gs) = tree_and (leveled_tree M L l t g) (leveled_all M L l ts gs)
  leveled_all M L l _ _ = no_trees

  pub leveled_each : Meaning → Meaning → (Name → ℕ → Name) → WrittenTrees → ClosedSymbol → WrittenTrees
  leveled_each M L l no_trees x = no_trees
  leveled_each M L l (tree_and t ts) x = tree_and (leveled_tree M L l t x) (leveled_each M L l ts x)
