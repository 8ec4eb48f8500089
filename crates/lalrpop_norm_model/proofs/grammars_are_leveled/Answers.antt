use Rattle.lalrpop_norm_model.proofs.OriginLemmas.{grammars_are_leveled}
use Rattle.lalrpop_norm_model.proofs.grammars_are_leveled.Goals as goal

pub returns : goal.returns
returns c = grammars_are_leveled
