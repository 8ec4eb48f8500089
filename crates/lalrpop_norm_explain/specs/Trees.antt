-- Trees as plain data, the trees of the theory.
use Rattle.std.specs.Prelude.{List, [], ◌∷◌, map}
use Rattle.lalrpop_norm_theory.specs.LoweredTrees as lowered
use Rattle.lalrpop_norm_theory.specs.LoweredTrees.{lowered_leaf, lowered_node, no_lowered, lowered_and}
use Rattle.lalrpop_norm_theory.specs.WrittenTrees as written
use Rattle.lalrpop_norm_theory.specs.WrittenTrees.{leaf, nothing, list, node, no_trees, tree_and}
use Rattle.lalrpop_norm_model.specs.Reading.{terminal_of}
use Rattle.lalrpop_norm_explain.specs.declared.trees.LoweredTree.{LoweredTree}
use Rattle.lalrpop_norm_explain.specs.declared.trees.LoweredTree.TheOpen.{LoweredTree-F}
use Rattle.lalrpop_norm_explain.specs.declared.trees.LoweredTree.TheFolds.{fold-LoweredTree}
use Rattle.lalrpop_norm_explain.specs.declared.trees.WrittenTree.{WrittenTree}
use Rattle.lalrpop_norm_explain.specs.declared.trees.WrittenTree.TheOpen.{WrittenTree-F}
use Rattle.lalrpop_norm_explain.specs.declared.trees.WrittenTree.TheFolds.{fold-WrittenTree}

abbrev pub lowered_trees_of : List lowered.LoweredTree → lowered.LoweredTrees
lowered_trees_of [] = no_lowered
lowered_trees_of (u ∷ us) = lowered_and u (lowered_trees_of us)

abbrev pub written_trees_of : List written.WrittenTree → written.WrittenTrees
written_trees_of [] = no_trees
written_trees_of (t ∷ ts) = tree_and t (written_trees_of ts)

abbrev pub lowered_step : LoweredTree-F lowered.LoweredTree → lowered.LoweredTree
lowered_step (LoweredTree-F.Leaf a) = lowered_leaf (terminal_of a)
lowered_step (LoweredTree-F.Node n p us) = lowered_node n.0 p (lowered_trees_of us.items)

abbrev pub written_step : WrittenTree-F written.WrittenTree → written.WrittenTree
written_step (WrittenTree-F.Leaf a) = leaf (terminal_of a)
written_step WrittenTree-F.Nothing = nothing
written_step (WrittenTree-F.List ts) = list (written_trees_of ts.items)
written_step (WrittenTree-F.Node n k ts) = node n.0 k (written_trees_of ts.items)

abbrev pub lowered_view : LoweredTree → lowered.LoweredTree
lowered_view = fold-LoweredTree lowered.LoweredTree lowered_step

abbrev pub written_view : WrittenTree → written.WrittenTree
written_view = fold-WrittenTree written.WrittenTree written_step

abbrev pub lowered_views : List LoweredTree → lowered.LoweredTrees
lowered_views us = lowered_trees_of (map lowered_view us)

abbrev pub written_views : List WrittenTree → written.WrittenTrees
written_views ts = written_trees_of (map written_view ts)
