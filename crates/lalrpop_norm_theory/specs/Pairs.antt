-- The pairing of written and lowered trees of a ground symbol: which trees correspond. It has a constructor for each case.
use Rattle.std.specs.Prelude.{◌≡◌, ℕ, slice_get, Option, Some}
use Rattle.lalrpop_norm_theory.specs.Symbols.{Name, Terminal, error_terminal, Wrapper, ClosedSymbol, ClosedSymbols, terminal}
use Rattle.lalrpop_norm_theory.specs.Symbols.{error, reference, call, group, star, plus, question, times, wrapped, lookahead}
use Rattle.lalrpop_norm_theory.specs.Symbols.{lookbehind, no_symbols, symbol_and, only, replicated}
use Rattle.lalrpop_norm_theory.specs.Meaning.{Meaning}
use Rattle.lalrpop_norm_theory.specs.WrittenTrees.{WrittenTree, WrittenTrees, leaf, nothing, list, node, no_trees, tree_and}
use Rattle.lalrpop_norm_theory.specs.WrittenTrees.{append}
use Rattle.lalrpop_norm_theory.specs.LoweredTrees.{LoweredTree, LoweredTrees, lowered_leaf, lowered_node, no_lowered, lowered_and}
use Rattle.lalrpop_norm_theory.specs.LoweredTrees.{written, level_step}
use Rattle.lalrpop_norm_theory.specs.Clauses.{clauses, clause}

-- Pairs M name g t u: the written tree t of g and the lowered tree u correspond, where nonterminals have the names `name`.
-- - A node of a rule has the production of its alternative (rule_pair), below a step for each level that the bound
--   lies above it (step_pair).
-- - A list under `X+` is a tree that leans to the left, its last element outermost (plus_one_pair, plus_more_pair).
-- - A list under `X{n}` has its one production, a child for each element, in order (times_pair).
mutual
  pub data Pairs (M : Meaning) (name : ClosedSymbol → Name) : ClosedSymbol → WrittenTree → LoweredTree → Type 0 where
    terminal_pair : (a : Terminal) → Pairs M name (terminal a) (leaf a) (lowered_leaf a)
    error_pair : Pairs M name error (leaf error_terminal) (lowered_leaf error_terminal)
    wrapped_pair : (w : Wrapper) (g : ClosedSymbol) (t : WrittenTree) (u : LoweredTree) →
        Pairs M name g t u → Pairs M name (wrapped w g) t u
    lookahead_pair : Pairs M name lookahead nothing (lowered_node (name lookahead) 0 no_lowered)
    lookbehind_pair : Pairs M name lookbehind nothing (lowered_node (name lookbehind) 0 no_lowered)
    group_pair : (gs : ClosedSymbols) (ts : WrittenTrees) (us : LoweredTrees) → AllPairs M name gs ts us →
        Pairs M name (group gs) (list ts) (lowered_node (name (group gs)) 0 us)
    rule_pair : (n : Name) (k p : ℕ) (b : Option ℕ) (parts : ClosedSymbols) (ts : WrittenTrees) (us : LoweredTrees) →
        M.own_parts n b k ≡ Some parts →
        slice_get (clauses M (reference n b)) p ≡ Some (clause (written n k) parts) →
        AllPairs M name parts ts us →
        Pairs M name (reference n b) (node n k ts) (lowered_node (name (reference n b)) p us)
    step_pair : (n : Name) (p : ℕ) (b c : Option ℕ) (t : WrittenTree) (u : LoweredTree) →
        M.previous n b ≡ Some c →
        slice_get (clauses M (reference n b)) p ≡ Some (clause level_step (only (reference n c))) →
        Pairs M name (reference n c) t u →
        Pairs M name (reference n b) t (lowered_node (name (reference n b)) p (lowered_and u no_lowered))
    call_pair : (n : Name) (k p : ℕ) (args : ClosedSymbols) (parts : ClosedSymbols) (ts : WrittenTrees) (us : LoweredTrees) →
        M.call_parts n args k ≡ Some parts →
        slice_get (clauses M (call n args)) p ≡ Some (clause (written n k) parts) →
        AllPairs M name parts ts us →
        Pairs M name (call n args) (node n k ts) (lowered_node (name (call n args)) p us)
    star_empty_pair : (x : ClosedSymbol) → Pairs M name (star x) (list no_trees) (lowered_node (name (star x)) 0 no_lowered)
    star_some_pair : (x : ClosedSymbol) (ts : WrittenTrees) (u : LoweredTree) → Pairs M name (plus x) (list ts) u →
        Pairs M name (star x) (list ts) (lowered_node (name (star x)) 1 (lowered_and u no_lowered))
    plus_one_pair : (x : ClosedSymbol) (t : WrittenTree) (u : LoweredTree) → Pairs M name x t u →
        Pairs M name (plus x) (list (tree_and t no_trees)) (lowered_node (name (plus x)) 0 (lowered_and u no_lowered))
    plus_more_pair : (x : ClosedSymbol) (ts : WrittenTrees) (t : WrittenTree) (v w : LoweredTree) →
        Pairs M name (plus x) (list ts) v → Pairs M name x t w →
        Pairs M name (plus x) (list (append ts (tree_and t no_trees)))
        (lowered_node (name (plus x)) 1 (lowered_and v (lowered_and w no_lowered)))
    question_some_pair : (x : ClosedSymbol) (t : WrittenTree) (u : LoweredTree) → Pairs M name x t u →
        Pairs M name (question x) (list (tree_and t no_trees)) (lowered_node (name (question x)) 0 (lowered_and u no_lowered))
    question_empty_pair : (x : ClosedSymbol) → Pairs M name (question x) (list no_trees)
        (lowered_node (name (question x)) 1 no_lowered)
    times_pair : (n : ℕ) (x : ClosedSymbol) (ts : WrittenTrees) (us : LoweredTrees) → AllPairs M name (replicated n x) ts us →
        Pairs M name (times n x) (list ts) (lowered_node (name (times n x)) 0 us)

  -- the trees correspond one by one
  pub data AllPairs (M : Meaning) (name : ClosedSymbol → Name) : ClosedSymbols → WrittenTrees →
      LoweredTrees → Type 0 where
    no_pairs : AllPairs M name no_symbols no_trees no_lowered
    pair_and : (g : ClosedSymbol) (gs : ClosedSymbols) (t : WrittenTree) (ts : WrittenTrees)
        (u : LoweredTree) (us : LoweredTrees) →
        Pairs M name g t u → AllPairs M name gs ts us →
        AllPairs M name (symbol_and g gs) (tree_and t ts) (lowered_and u us)
