use Rattle.std.proofs.Common.{rules}
use Rattle.lalrpop_norm_lower_steps.proofs.code.is_fallible.Goals as goal

pub returns-in-Some-Fallible : goal.returns-in-Some-Fallible
returns-in-Some-Fallible c = search rules
