use Rattle.lalrpop_norm.proofs.AmbiguousRules.{rules_ambiguous}
use Rattle.lalrpop_norm.proofs.laws.rules_are_ambiguous_exactly.Goals as goal

pub returns : goal.returns
returns c = rules_ambiguous
