use Rattle.std.proofs.Common.{refl}
use Rattle.lalrpop_norm_macro_expand.proofs.macro_expand.make.with_environment.Goals as goal

pub returns-clause-generated : goal.returns-clause-generated
returns-clause-generated c = λ ws. refl

pub returns-clause-readable : goal.returns-clause-readable
returns-clause-readable c = λ ws are. are
