use Rattle.std.proofs.Common.{rules}
use Rattle.lexplain_lines.proofs.Refusals.{lowered_trees_two, lowered_trees_not_two, no_lowered_trees}
use Rattle.lexplain_lines.proofs.read.two_lowered_trees_of_lines.Goals as goal

pub returns-in_err-trees-clause-not : goal.returns-in_err-trees-clause-not
returns-in_err-trees-clause-not c = λ refused. no_lowered_trees c.args.lines.now (c.in_err-trees.ensures.not (search rules))

pub returns-clause-ok : goal.returns-clause-ok
returns-clause-ok c = lowered_trees_two c.args.lines.now c.in_ok-trees.trees.items c.in_ok-trees.ensures.ok c.only_two.result c.only_two.ensures.ok

pub returns-clause-not : goal.returns-clause-not
returns-clause-not c = λ refused u v whole.
    lowered_trees_not_two c.args.lines.now c.in_ok-trees.trees.items c.in_ok-trees.ensures.ok u v whole (c.only_two.ensures.not refused)
