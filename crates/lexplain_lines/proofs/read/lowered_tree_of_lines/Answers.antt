use Rattle.std.proofs.Common.{rules}
use Rattle.lexplain_lines.proofs.Refusals.{lowered_tree_one, lowered_trees_not_one, no_lowered_tree}
use Rattle.lexplain_lines.proofs.read.lowered_tree_of_lines.Goals as goal

pub returns-in_err-trees-clause-not : goal.returns-in_err-trees-clause-not
returns-in_err-trees-clause-not c = λ refused. no_lowered_tree c.args.lines.now (c.in_err-trees.ensures.not (search rules))

pub returns-clause-ok : goal.returns-clause-ok
returns-clause-ok c = lowered_tree_one c.args.lines.now c.in_ok-trees.trees.items c.in_ok-trees.ensures.ok c.only_one.result c.only_one.ensures.ok

pub returns-clause-not : goal.returns-clause-not
returns-clause-not c = λ refused u whole.
    lowered_trees_not_one c.args.lines.now c.in_ok-trees.trees.items c.in_ok-trees.ensures.ok u whole (c.only_one.ensures.not refused)
