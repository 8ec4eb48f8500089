use Rattle.lalrpop_norm_theory.proofs.Trees.{translations_inverse}
use Rattle.lalrpop_norm_theory.proofs.translations_are_inverse.Goals as goal

pub returns : goal.returns
returns c = translations_inverse
