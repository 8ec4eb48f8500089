-- Where two yields differ first, and the path to the smallest trees that hold all that differs between two written trees.
use Rattle.std.specs.Prelude.{ℕ, suc, ◌+◌, ◌&&◌, bytes_eq, nat_eq, if◌then◌else◌, List, [], ◌∷◌, reverse, Option, Some, None, Vec}
use Rattle.std.specs.Global.{Global}
use Rattle.lalrpop_norm_theory.specs.Symbols.{Terminal}
use Rattle.lalrpop_norm_theory.specs.Same.{same_closed_terminal}
use Rattle.lalrpop_norm_theory.specs.WrittenTrees.{WrittenTree, WrittenTrees, leaf, nothing, list, node, no_trees, tree_and}

-- the first index at which two yields differ, counted from a number on
abbrev pub yield_difference : ℕ → List Terminal → List Terminal → Option ℕ
yield_difference i [] [] = None
yield_difference i [] (b ∷ bs) = Some i
yield_difference i (a ∷ xs) [] = Some i
yield_difference i (a ∷ xs) (b ∷ bs) = if same_closed_terminal a b then yield_difference (i + 1) xs bs else Some i

-- the path to a difference in that child, from its parent
abbrev pub at_child : ℕ → Option (List ℕ) → Option (List ℕ)
at_child i None = None
at_child i (Some p) = Some (i ∷ p)

-- the difference of both: that of the one that differs, or of the parent if both do
abbrev pub merged : Option (List ℕ) → Option (List ℕ) → Option (List ℕ)
merged None q = q
merged (Some p) None = Some p
merged (Some p) (Some q) = Some []

-- The path to the smallest trees that hold all that differs; None if the trees are the same. Nodes of one rule and alternative,
-- and lists of one length, differ in their children: if one child alone differs, then within it.
abbrev mutual
  pub tree_difference : WrittenTree → WrittenTree → Option (List ℕ)
  tree_difference (leaf a) (leaf b) = if same_closed_terminal a b then None else Some []
  tree_difference nothing nothing = None
  tree_difference (list ts) (list ss) = children_difference ts ss 0
  tree_difference (node n k ts) (node m j ss) = if bytes_eq n m && nat_eq k j then children_difference ts ss 0 else Some []
  tree_difference _ _ = Some []

  -- of children, counted from an index on
  pub children_difference : WrittenTrees → WrittenTrees → ℕ → Option (List ℕ)
  children_difference no_trees no_trees i = None
  children_difference no_trees (tree_and s ss) i = Some []
  children_difference (tree_and t ts) no_trees i = Some []
  children_difference (tree_and t ts) (tree_and s ss) i = merged (at_child i (tree_difference t s)) (children_difference ts ss (i + 1))

-- the path that is kept from its end to its start
abbrev pub upwards : Vec ℕ Global → List ℕ
upwards path = reverse path.items
