use Rattle.lalrpop_norm.proofs.laws.conditions_have_one_value.Goals as goal

pub returns : goal.returns
returns c = λ k left value e. let h = (c.conditions_say.ensures.values k.op left k.rhs value).0 e in rw h.1 h.2
