use Rattle.std.proofs.Common.{◌≡◌, ◌++◌, map, drop}
use Rattle.lalrpop_norm_theory.specs.WrittenTrees.{yields}
use Rattle.lalrpop_norm_model.specs.Reading.{terminal_of}
use Rattle.lalrpop_norm_explain.specs.Trees.{written_views}
use Rattle.lalrpop_norm_ambiguity.proofs.differences.+yields.Given as goal

abbrev pub invariant-add_yields-loop-index : goal.invariant-add_yields-loop-index
invariant-add_yields-loop-index l =
    map terminal_of l.leaves.items ++ yields (written_views (drop l.index l.trees))
    ≡ map terminal_of l.initial.leaves.items ++ yields (written_views l.trees)
