use Rattle.lalrpop_norm_conditions.proofs.ReadingLemmas.{agrees}
use Rattle.lalrpop_norm_conditions.proofs.patterns_are_those_of_regex.Goals as goal

pub returns : goal.returns
returns c = agrees
