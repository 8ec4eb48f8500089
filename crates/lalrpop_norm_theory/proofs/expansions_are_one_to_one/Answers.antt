use Rattle.lalrpop_norm_theory.proofs.Expansion.{expansions_one_to_one}
use Rattle.lalrpop_norm_theory.proofs.expansions_are_one_to_one.Goals as goal

pub returns : goal.returns
returns c = expansions_one_to_one
