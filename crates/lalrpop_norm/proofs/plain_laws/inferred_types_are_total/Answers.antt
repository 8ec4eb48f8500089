use Rattle.lalrpop_norm.proofs.ComposedFaithful.{inferred_total}
use Rattle.lalrpop_norm.proofs.plain_laws.inferred_types_are_total.Goals as goal

pub returns : goal.returns
returns c = λ fs g limit entered table h. inferred_total fs g limit entered h table
