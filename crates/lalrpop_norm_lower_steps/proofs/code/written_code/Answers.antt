use Rattle.std.proofs.Common.{rules}
use Rattle.lalrpop_norm_lower_steps.proofs.code.written_code.Goals as goal

pub returns-in-Some-User : goal.returns-in-Some-User
returns-in-Some-User c = search rules

pub returns-in-Some-Fallible : goal.returns-in-Some-Fallible
returns-in-Some-Fallible c = search rules
