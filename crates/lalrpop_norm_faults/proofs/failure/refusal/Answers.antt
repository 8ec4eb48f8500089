use Rattle.std.proofs.Common.{refl}
use Rattle.lalrpop_norm_faults.proofs.failure.refusal.Goals as goal

pub returns-in-Ok-clause-first : goal.returns-in-Ok-clause-first
returns-in-Ok-clause-first c = refl

pub returns-in-Ok-clause-answer : goal.returns-in-Ok-clause-answer
returns-in-Ok-clause-answer c = rw c.in-Ok.is refl
