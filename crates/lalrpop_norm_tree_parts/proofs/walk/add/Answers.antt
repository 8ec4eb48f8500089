use Rattle.lalrpop_norm_tree_parts.proofs.walk.add.Goals as goal

pub returns : goal.returns
returns g c = c.in_ok-push.ensures.items
