use Rattle.lalrpop_norm_conditions.proofs.FoundLemmas.{operators_say, values_are_of_literals}
use Rattle.lalrpop_norm_conditions.proofs.conditions_say.Goals as goal

pub returns : goal.returns
returns c = record { operators = operators_say; values = values_are_of_literals }
