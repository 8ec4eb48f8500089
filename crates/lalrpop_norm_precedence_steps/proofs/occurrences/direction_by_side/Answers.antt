use Rattle.std.proofs.Common.{refl}
use Rattle.lalrpop_norm_precedence_steps.proofs.occurrences.direction_by_side.Goals as goal

pub returns-in-Right : goal.returns-in-Right
returns-in-Right c = rw c.in-Right.is refl
