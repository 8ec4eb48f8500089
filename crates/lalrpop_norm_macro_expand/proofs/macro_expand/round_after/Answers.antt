use Rattle.std.proofs.Common.{◌+◌, ℕ, ap}
use Rattle.lalrpop_norm_macro_expand.proofs.macro_expand.round_after.Goals as goal

pub returns : goal.returns
returns c = ap (λ (n : ℕ). n + 1) c.from.ensures
