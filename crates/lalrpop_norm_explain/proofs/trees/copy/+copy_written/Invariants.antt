use Rattle.std.proofs.Common.{◌≡◌, map, take}
use Rattle.lalrpop_norm_explain.specs.Trees.{written_view}
use Rattle.lalrpop_norm_explain.proofs.trees.copy.+copy_written.Given as goal

abbrev pub invariant-copy_written_trees-loop-tree : goal.invariant-copy_written_trees-loop-tree
invariant-copy_written_trees-loop-tree l = map written_view l.copies.items ≡ map written_view (take l.tree-index l.tree-items)
