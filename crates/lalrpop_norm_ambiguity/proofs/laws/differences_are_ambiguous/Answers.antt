use Rattle.lalrpop_norm_ambiguity.proofs.Paths.{differences_ambiguous}
use Rattle.lalrpop_norm_ambiguity.proofs.laws.differences_are_ambiguous.Goals as goal

pub returns : goal.returns
returns c = differences_ambiguous
