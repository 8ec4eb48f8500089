use Rattle.lalrpop_norm.proofs.ExpandedActive.{plain_active}
use Rattle.lalrpop_norm.proofs.plain_laws.plain_conversions_are_active.Goals as goal

pub returns : goal.returns
returns c = λ fs g limit t i. plain_active fs g limit t i
