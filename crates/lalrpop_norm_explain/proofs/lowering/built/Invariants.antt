use Rattle.std.proofs.Common.{◌≡◌, map}
use Rattle.std.specs.Prelude.{reverse}
use Rattle.lalrpop_norm_explain.specs.Trees.{lowered_view, lowered_views}
use Rattle.lalrpop_norm_explain.specs.Plans.{stepped, planned_tree, step_pair, way_view}
use Rattle.lalrpop_norm_explain.proofs.lowering.built.Given as goal

abbrev pub invariant-loop-name : goal.invariant-loop-name
invariant-loop-name l =
    stepped (reverse (map step_pair l.name-iterator.rest.items)) (lowered_view l.whole)
    ≡ planned_tree (way_view l.fn.way) (lowered_views l.fn.children.items)
