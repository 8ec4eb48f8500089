use Rattle.lalrpop_norm_tyinfer_steps.proofs.same.is_same_name.Goals as goal

pub returns : goal.returns
returns c = c.eq.ensures
