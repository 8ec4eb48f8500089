-- What the laws of the lines ask of trees: each number of an alternative or production, and each number of children, is below 2^64.
use Rattle.std.specs.Prelude.{◌<◌, ◌^◌, ⊤}
use Rattle.lalrpop_norm_theory.specs.WrittenTrees.{WrittenTree, WrittenTrees, tree_count, leaf, nothing, list, node, no_trees, tree_and}
use Rattle.lalrpop_norm_theory.specs.LoweredTrees.{LoweredTree, LoweredTrees, lowered_leaf, lowered_node, no_lowered, lowered_and}
use Rattle.lexplain_lines.specs.TreeLines.{lowered_count}

abbrev mutual
  pub WrittenHasWords : WrittenTree → Type 0
  WrittenHasWords (leaf a) = ⊤
  WrittenHasWords nothing = ⊤
  WrittenHasWords (list ts) = (tree_count ts < 2 ^ 64) × AllWrittenHaveWords ts
  WrittenHasWords (node n k ts) = (k < 2 ^ 64) × (tree_count ts < 2 ^ 64) × AllWrittenHaveWords ts

  pub AllWrittenHaveWords : WrittenTrees → Type 0
  AllWrittenHaveWords no_trees = ⊤
  AllWrittenHaveWords (tree_and t ts) = WrittenHasWords t × AllWrittenHaveWords ts

abbrev mutual
  pub LoweredHasWords : LoweredTree → Type 0
  LoweredHasWords (lowered_leaf a) = ⊤
  LoweredHasWords (lowered_node n p us) = (p < 2 ^ 64) × (lowered_count us < 2 ^ 64) × AllLoweredHaveWords us

  pub AllLoweredHaveWords : LoweredTrees → Type 0
  AllLoweredHaveWords no_lowered = ⊤
  AllLoweredHaveWords (lowered_and u us) = LoweredHasWords u × AllLoweredHaveWords us
