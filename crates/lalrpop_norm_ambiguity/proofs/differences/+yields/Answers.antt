use Rattle.std.proofs.Common.{◌≤◌, length, arith}
use Rattle.lalrpop_norm_ambiguity.proofs.Steps.{next_word, words_done}
use Rattle.lalrpop_norm_ambiguity.proofs.differences.+yields.Goals as goal

pub add_yields-loop-index-preserved : goal.add_yields-loop-index-preserved
add_yields-loop-index-preserved t c =
    next_word c.args.trees.now c.loop-index.index c.index-trees-index.result c.loop-index-test.true c.index-trees-index.is
    c.args.leaves.now.items c.loop-index.leaves.items c.add_yield.new.leaves.items c.loop-index.invariant c.in_ok-add_yield.ensures

pub add_yields-returns : goal.add_yields-returns
add_yields-returns t c =
    let done : length c.args.trees.now ≤ c.loop-index.index = omega arith in
    words_done c.args.trees.now c.loop-index.index c.loop-index.leaves.items _ done c.loop-index.invariant
