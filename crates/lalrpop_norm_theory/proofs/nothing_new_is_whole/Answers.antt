use Rattle.lalrpop_norm_theory.proofs.Expansion.{nothing_new_whole}
use Rattle.lalrpop_norm_theory.proofs.nothing_new_is_whole.Goals as goal

pub returns : goal.returns
returns c = nothing_new_whole
