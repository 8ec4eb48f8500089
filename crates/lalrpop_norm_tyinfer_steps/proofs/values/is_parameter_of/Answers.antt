use Rattle.std.proofs.Common.{refl}
use Rattle.lalrpop_norm_tyinfer_steps.proofs.values.is_parameter_of.Goals as goal

pub returns-in-Id : goal.returns-in-Id
returns-in-Id c = rw c.in-Id.is c.is_same_name.ensures

pub returns-in-Lifetime : goal.returns-in-Lifetime
returns-in-Lifetime c = rw c.in-Lifetime.is refl
