use Rattle.lalrpop_norm_theory.proofs.SameLemmas.{symbol_test}
use Rattle.lalrpop_norm_theory.proofs.same_is_equal.Goals as goal

pub returns : goal.returns
returns c = symbol_test
