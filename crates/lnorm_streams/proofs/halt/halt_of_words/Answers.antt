use Rattle.std.proofs.Common.{refl}
use Rattle.lnorm_streams.proofs.halt.halt_of_words.Goals as goal

pub returns-in-InvalidData-clause-text : goal.returns-in-InvalidData-clause-text
returns-in-InvalidData-clause-text c = λ _. refl
