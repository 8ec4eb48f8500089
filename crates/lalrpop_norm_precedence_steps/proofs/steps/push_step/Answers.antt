use Rattle.std.proofs.Common.{sym, append-nil}
use Rattle.lalrpop_norm_precedence_steps.proofs.steps.push_step.Goals as goal

pub returns-in-None : goal.returns-in-None
returns-in-None c = rw c.in-None.is (sym (append-nil _))
