-- The way forward by the origins alone: what a written tree is at a symbol of a lowered grammar, and where it is none.
use Rattle.std.specs.Prelude.{ℕ, ◌+◌, Bool, if◌then◌else◌, List, [], ◌∷◌, false, ◌++◌, Option, Some, None}
use Rattle.lalrpop_norm_theory.specs.Symbols.{Name, Terminal, error_terminal}
use Rattle.lalrpop_norm_theory.specs.Same.{same_closed_terminal}
use Rattle.lalrpop_norm_theory.specs.LoweredTrees.{ProductionTable, LoweredSymbol, terminal_symbol, nonterminal_symbol}
use Rattle.lalrpop_norm_theory.specs.LoweredTrees.{LoweredTree, LoweredTrees, lowered_leaf, lowered_node, no_lowered}
use Rattle.lalrpop_norm_theory.specs.LoweredTrees.{lowered_and}
use Rattle.lalrpop_norm_theory.specs.WrittenTrees.{WrittenTree, WrittenTrees, leaf, nothing, list, node, no_trees, tree_and}
use Rattle.lalrpop_norm_explain.specs.declared.errors.ExplainFault.TheVariants.{Root as NoRoot, Shape as NoShape}
use Rattle.lalrpop_norm_explain.specs.TreeFaults.{Found, raised}
use Rattle.lalrpop_norm_explain.specs.Forms.{form_of}
use Rattle.lalrpop_norm_explain.specs.Plans.{TreePlan, planned_tree, is_one_for_each, plus_plan, list_at, nothing_at, node_at}
use Rattle.lalrpop_norm_explain.specs.Plans.{most_steps}

abbrev pub is_leaf_of : Terminal → LoweredSymbol → Bool
is_leaf_of a (terminal_symbol b) = same_closed_terminal b a
is_leaf_of a (nonterminal_symbol n) = false

-- the fault of a tree seen without its children, else what is below
abbrev pub plan_faults : Option TreePlan → (List LoweredSymbol → List Found) → List Found
plan_faults None below = (NoShape, []) ∷ []
plan_faults (Some q) below = below q.wanted

abbrev pub plan_tree : Option TreePlan → (List LoweredSymbol → LoweredTrees) → LoweredTree
plan_tree None below = lowered_leaf error_terminal
plan_tree (Some q) below = planned_tree q (below q.wanted)

abbrev mutual
  pub shape_faults : ProductionTable → ℕ → WrittenTree → LoweredSymbol → List Found
  shape_faults P fuel (leaf a) s = if is_leaf_of a s then [] else (NoShape, []) ∷ []
  shape_faults P fuel nothing s = plan_faults (nothing_at P s) (λ _. [])
  shape_faults P fuel (list ts) s = plan_faults (list_at P s ts) (λ ss. shapes_faults P fuel ts ss 0)
  shape_faults P fuel (node m k ts) s = plan_faults (node_at P fuel s m k ts) (λ ss. shapes_faults P fuel ts ss 0)

  pub shapes_faults : ProductionTable → ℕ → WrittenTrees → List LoweredSymbol → ℕ → List Found
  shapes_faults P fuel no_trees ss i = []
  shapes_faults P fuel (tree_and t ts) [] i = []
  shapes_faults P fuel (tree_and t ts) (s ∷ ss) i = raised i (shape_faults P fuel t s) ++ shapes_faults P fuel ts ss (i + 1)

abbrev mutual
  pub lowered_by : ProductionTable → ℕ → WrittenTree → LoweredSymbol → LoweredTree
  lowered_by P fuel (leaf a) s = lowered_leaf a
  lowered_by P fuel nothing s = plan_tree (nothing_at P s) (λ _. no_lowered)
  lowered_by P fuel (list ts) s = plan_tree (list_at P s ts) (λ ss. each_lowered P fuel ts ss)
  lowered_by P fuel (node m k ts) s = plan_tree (node_at P fuel s m k ts) (λ ss. each_lowered P fuel ts ss)

  pub each_lowered : ProductionTable → ℕ → WrittenTrees → List LoweredSymbol → LoweredTrees
  each_lowered P fuel no_trees ss = no_lowered
  each_lowered P fuel (tree_and t ts) [] = no_lowered
  each_lowered P fuel (tree_and t ts) (s ∷ ss) = lowered_and (lowered_by P fuel t s) (each_lowered P fuel ts ss)

-- faults of a whole tree: it is a node of a rule at which trees may begin, and a tree of its nonterminal
abbrev pub lower_faults : (Name → Bool) → ProductionTable → ℕ → WrittenTree → List Found
lower_faults roots P fuel (node m k ts) =
    if roots m then shape_faults P fuel (node m k ts) (nonterminal_symbol m) else (NoRoot, []) ∷ []
lower_faults roots P fuel _ = (NoRoot, []) ∷ []

-- what a whole tree is lowered to
abbrev pub lowered_root : ProductionTable → ℕ → WrittenTree → LoweredTree
lowered_root P fuel (node m k ts) = lowered_by P fuel (node m k ts) (nonterminal_symbol m)
lowered_root P fuel t = lowered_leaf error_terminal

-- ---- the code's own words

-- the name of the root, if trees may begin there
abbrev pub begun_by : (Name → Bool) → WrittenTree → Option Name
begun_by roots (node m k ts) = if roots m then Some m else None
begun_by roots _ = None

-- a leaf of that terminal
abbrev pub leaf_of : Terminal → WrittenTree → Option LoweredTree
leaf_of b (leaf a) = if same_closed_terminal b a then Some (lowered_leaf a) else None
leaf_of b _ = None

-- faults of trees for so many symbols: of their number, then of each
abbrev pub fitting_faults : ProductionTable → WrittenTrees → List LoweredSymbol → List Found
fitting_faults P ts ss = if is_one_for_each ts ss then shapes_faults P most_steps ts ss 0 else (NoShape, []) ∷ []

-- a list of the rule of `X+`
abbrev pub plus_faults : ProductionTable → Name → WrittenTrees → List Found
plus_faults P n ts = plan_faults (plus_plan n (form_of (P n)) ts) (λ ss. shapes_faults P most_steps ts ss 0)

abbrev pub plus_lowered : ProductionTable → Name → WrittenTrees → LoweredTree
plus_lowered P n ts = plan_tree (plus_plan n (form_of (P n)) ts) (λ ss. each_lowered P most_steps ts ss)

-- a list with one more at its end
abbrev pub one_more : Name → Option LoweredTree → LoweredTree → LoweredTree
one_more n None u = lowered_node n 0 (lowered_and u no_lowered)
one_more n (Some before) u = lowered_node n 1 (lowered_and before (lowered_and u no_lowered))
