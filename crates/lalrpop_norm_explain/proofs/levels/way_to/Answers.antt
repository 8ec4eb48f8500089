use Rattle.lalrpop_norm_explain.proofs.levels.way_to.Goals as goal

pub returns : goal.returns
returns c = rw c.most_steps.ensures at c.way_within.ensures
