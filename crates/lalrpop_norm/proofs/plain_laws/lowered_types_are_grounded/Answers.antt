use Rattle.lalrpop_norm.proofs.ComposedFaithful.{grounded}
use Rattle.lalrpop_norm.proofs.plain_laws.lowered_types_are_grounded.Goals as goal

pub returns : goal.returns
returns c = λ fs g limit entered table types h. grounded fs g limit entered table h types
