use Rattle.std.proofs.Common.{arith}
use Rattle.std.proofs.lemmas.Grind.{common_steps}
use Rattle.lalrpop_norm_macro_expand_repeats.proofs.repeats.plus_alternatives.Goals as goal

pub returns : goal.returns
returns c = grind (arith, common_steps)
