use Rattle.lalrpop_norm.proofs.WordLemmas.{words_equal}
use Rattle.lalrpop_norm.proofs.laws.words_are_equal.Goals as goal

pub returns : goal.returns
returns c = words_equal
