use Rattle.std.proofs.Common.{rules, inl, inr}
use Rattle.lnorm_c.proofs.trees.translated.Goals as goal

pub returns-in-Ok-clause-refused : goal.returns-in-Ok-clause-refused
returns-in-Ok-clause-refused c = λ two. inr (search rules)

pub returns-in-Err-Usage-clause-refused : goal.returns-in-Err-Usage-clause-refused
returns-in-Err-Usage-clause-refused c = λ two. inl (c.asked_in.ensures.usage (search rules), search rules)
