use Rattle.std.proofs.Common.{refl}
use Rattle.lnorm_buffers.proofs.answer.told.Goals as goal

pub returns-then-ended-lt3-clause-ended : goal.returns-then-ended-lt3-clause-ended
returns-then-ended-lt3-clause-ended c =
    λ _. (refl, rw c.deref.ensures.value at c.put.ensures, rw c.deref-then-ended-lt3.ensures.value at c.put-then-ended-lt3.ensures)
