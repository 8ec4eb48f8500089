use Rattle.lalrpop_norm_tree_parts.proofs.walk.same_name.Goals as goal

pub returns : goal.returns
returns c = c.in_ok-clone.ensures.cases
