use Rattle.lalrpop_norm_theory.proofs.Trees.{words_same}
use Rattle.lalrpop_norm_theory.proofs.words_are_the_same.Goals as goal

pub returns : goal.returns
returns c = words_same
