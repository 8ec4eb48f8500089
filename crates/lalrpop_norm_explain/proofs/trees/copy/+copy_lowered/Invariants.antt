use Rattle.std.proofs.Common.{◌≡◌, map, take}
use Rattle.lalrpop_norm_explain.specs.Trees.{lowered_view}
use Rattle.lalrpop_norm_explain.proofs.trees.copy.+copy_lowered.Given as goal

abbrev pub invariant-copy_lowered_trees-loop-tree : goal.invariant-copy_lowered_trees-loop-tree
invariant-copy_lowered_trees-loop-tree l = map lowered_view l.copies.items ≡ map lowered_view (take l.tree-index l.tree-items)
