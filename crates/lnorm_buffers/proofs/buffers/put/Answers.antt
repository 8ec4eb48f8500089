use Rattle.std.proofs.Common.{refl}
use Rattle.lnorm_buffers.proofs.buffers.put.Goals as goal

pub returns : goal.returns
returns c = record { size = refl; front = rw (c.copy_from_slice.ensures.after, c.min-count.ensures) refl }
