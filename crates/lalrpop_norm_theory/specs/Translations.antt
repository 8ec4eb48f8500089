-- The two translations as functions: forward, by the written tree and its symbol; back, by the origins only.
use Rattle.std.specs.Prelude.{ℕ, zero, suc, slice_get, Option, Some, None, unwrap_or, length}
use Rattle.lalrpop_norm_theory.specs.Symbols.{Name, error_terminal, ClosedSymbol, ClosedSymbols, terminal, error, reference, call}
use Rattle.lalrpop_norm_theory.specs.Symbols.{group, star, plus, question, times, wrapped, lookahead, lookbehind, no_symbols}
use Rattle.lalrpop_norm_theory.specs.Symbols.{symbol_and}
use Rattle.lalrpop_norm_theory.specs.Meaning.{Meaning}
use Rattle.lalrpop_norm_theory.specs.WrittenTrees.{WrittenTree, WrittenTrees, leaf, nothing, list, node, no_trees, tree_and}
use Rattle.lalrpop_norm_theory.specs.WrittenTrees.{append}
use Rattle.lalrpop_norm_theory.specs.LoweredTrees.{LoweredTree, LoweredTrees, lowered_leaf, lowered_node, no_lowered, lowered_and}
use Rattle.lalrpop_norm_theory.specs.LoweredTrees.{ProductionTable, Production, Origin, from_start, written, level_step}
use Rattle.lalrpop_norm_theory.specs.LoweredTrees.{from_group, star_empty, star_some, plus_one, plus_more, question_some}
use Rattle.lalrpop_norm_theory.specs.LoweredTrees.{question_empty, from_times, from_lookahead, from_lookbehind}
use Rattle.lalrpop_norm_theory.specs.Clauses.{own_clauses}

-- the first of a list of trees
abbrev pub first_tree : WrittenTrees → WrittenTree
first_tree no_trees = nothing
first_tree (tree_and t ts) = t

-- the second of a list of trees
abbrev pub second : WrittenTrees → WrittenTree
second no_trees = nothing
second (tree_and t ts) = first_tree ts

-- the elements of a list
abbrev pub elements : WrittenTree → WrittenTrees
elements (list ts) = ts
elements _ = no_trees

-- what an origin makes of the children's trees: a start symbol and a step become their child, `plus_more` puts its second
-- child at the end of its first one's list
abbrev pub made_by : Origin → WrittenTrees → WrittenTree
made_by from_start ts = first_tree ts
made_by (written n k) ts = node n k ts
made_by level_step ts = first_tree ts
made_by from_group ts = list ts
made_by star_empty ts = list no_trees
made_by star_some ts = first_tree ts
made_by plus_one ts = list ts
made_by plus_more ts = list (append (elements (first_tree ts)) (tree_and (second ts) no_trees))
made_by question_some ts = list ts
made_by question_empty ts = list no_trees
made_by from_times ts = list ts
made_by from_lookahead ts = nothing
made_by from_lookbehind ts = nothing

-- that of a production, if there is one
abbrev pub made_at : Option Production → WrittenTrees → WrittenTree
made_at None ts = nothing
made_at (Some q) ts = made_by q.origin ts

-- the written tree that the origins make of a lowered tree
abbrev mutual
  pub written_tree : ProductionTable → LoweredTree → WrittenTree
  written_tree P (lowered_leaf a) = leaf a
  written_tree P (lowered_node n p us) = made_at (slice_get (P n) p) (written_each P us)

  pub written_each : ProductionTable → LoweredTrees → WrittenTrees
  written_each P no_lowered = no_trees
  written_each P (lowered_and u us) = tree_and (written_tree P u) (written_each P us)

-- one more, if there are parts
abbrev pub counted : Option ClosedSymbols → ℕ → ℕ
counted None rest = rest
counted (Some parts) rest = suc rest

-- how many of the numbers from k on, `number` of them, have parts: the index of the clause of alternative k + number
abbrev pub lowered_place : (ℕ → Option ClosedSymbols) → ℕ → ℕ → ℕ
lowered_place f k zero = 0
lowered_place f k (suc number) = counted (f k) (lowered_place f (suc k) number)

-- The node of alternative k of the rule n, below the steps from the bound b to its level, `depth` of them at most.
abbrev pub own_node : Meaning → (ClosedSymbol → Name) → Name → ℕ → (ClosedSymbols → LoweredTrees) → Option ℕ →
    Option ClosedSymbols → LoweredTree → LoweredTree
own_node M name n k children b None below = below
own_node M name n k children b (Some parts) below =
    lowered_node (name (reference n b)) (lowered_place (M.own_parts n b) 0 k) (children parts)

-- a step to the level below, if there is one
abbrev pub step_node : Meaning → (ClosedSymbol → Name) → Name → Option ℕ → Option (Option ℕ) →
    (Option ℕ → LoweredTree) → LoweredTree
step_node M name n b None below = lowered_leaf error_terminal
step_node M name n b (Some c) below =
    lowered_node (name (reference n b)) (length (own_clauses M n b)) (lowered_and (below c) no_lowered)

-- the level's own alternatives first, else a step, as often as there are levels
abbrev pub lowered_rule : Meaning → (ClosedSymbol → Name) → Name → ℕ → (ClosedSymbols → LoweredTrees) → ℕ →
    Option ℕ → LoweredTree
lowered_rule M name n k children zero b = own_node M name n k children b (M.own_parts n b k) (lowered_leaf error_terminal)
lowered_rule M name n k children (suc depth) b =
    own_node M name n k children b (M.own_parts n b k)
    (step_node M name n b (M.previous n b) (λ c. lowered_rule M name n k children depth c))

-- a list under `X*`: the empty production, or the step to the tree u under `X+`
abbrev pub lowered_star : (ClosedSymbol → Name) → WrittenTrees → ClosedSymbol → LoweredTree → LoweredTree
lowered_star name no_trees x u = lowered_node (name (star x)) 0 no_lowered
lowered_star name (tree_and t ts) x u = lowered_node (name (star x)) 1 (lowered_and u no_lowered)

-- a list under `X?`: the empty production, or its one element
abbrev pub lowered_question : (ClosedSymbol → Name) → ClosedSymbol → LoweredTrees → LoweredTree
lowered_question name x no_lowered = lowered_node (name (question x)) 1 no_lowered
lowered_question name x (lowered_and u us) = lowered_node (name (question x)) 0 (lowered_and u us)

-- the tree before with the trees us added, the last outermost
abbrev pub extended : (ClosedSymbol → Name) → ClosedSymbol → LoweredTree → LoweredTrees → LoweredTree
extended name x before no_lowered = before
extended name x before (lowered_and u us) =
    extended name x (lowered_node (name (plus x)) 1 (lowered_and before (lowered_and u no_lowered))) us

-- the tree under `X+` over the trees us, leaning to the left
abbrev pub left_leaning : (ClosedSymbol → Name) → ClosedSymbol → LoweredTrees → LoweredTree
left_leaning name x no_lowered = lowered_leaf error_terminal
left_leaning name x (lowered_and u us) = extended name x (lowered_node (name (plus x)) 0 (lowered_and u no_lowered)) us

-- The lowered tree of a written tree of a ground symbol. If the tree is none of the symbol's, it has no meaning.
abbrev mutual
  pub lowered_tree : Meaning → (ClosedSymbol → Name) → WrittenTree → ClosedSymbol → LoweredTree
  lowered_tree M name t (wrapped w g) = lowered_tree M name t g
  lowered_tree M name (leaf a) (terminal b) = lowered_leaf a
  lowered_tree M name (leaf a) error = lowered_leaf a
  lowered_tree M name nothing lookahead = lowered_node (name lookahead) 0 no_lowered
  lowered_tree M name nothing lookbehind = lowered_node (name lookbehind) 0 no_lowered
  lowered_tree M name (list ts) (group gs) = lowered_node (name (group gs)) 0 (lowered_all M name ts gs)
  lowered_tree M name (list ts) (star x) = lowered_star name ts x (left_leaning name x (lowered_each M name ts x))
  lowered_tree M name (list ts) (plus x) = left_leaning name x (lowered_each M name ts x)
  lowered_tree M name (list ts) (question x) = lowered_question name x (lowered_each M name ts x)
  lowered_tree M name (list ts) (times n x) = lowered_node (name (times n x)) 0 (lowered_each M name ts x)
  lowered_tree M name (node n k ts) (reference m b) =
      lowered_rule M name m k (λ gs. lowered_all M name ts gs) (M.depth m b) b
  lowered_tree M name (node n k ts) (call m args) =
      lowered_node (name (call m args)) (lowered_place (M.call_parts m args) 0 k)
      (lowered_all M name ts (unwrap_or (M.call_parts m args k) no_symbols))
  lowered_tree M name _ _ = lowered_leaf error_terminal

  pub lowered_all : Meaning → (ClosedSymbol → Name) → WrittenTrees → ClosedSymbols → LoweredTrees
  lowered_all M name (tree_and t ts) (symbol_and g gs) = lowered_and (lowered_tree M name t g) (lowered_all M name ts gs)
  lowered_all M name _ _ = no_lowered

  pub lowered_each : Meaning → (ClosedSymbol → Name) → WrittenTrees → ClosedSymbol → LoweredTrees
  lowered_each M name no_trees x = no_lowered
  lowered_each M name (tree_and t ts) x = lowered_and (lowered_tree M name t x) (lowered_each M name ts x)
