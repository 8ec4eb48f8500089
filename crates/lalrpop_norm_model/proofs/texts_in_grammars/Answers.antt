use Rattle.lalrpop_norm_model.proofs.TextLemmas.{texts_in_grammars}
use Rattle.lalrpop_norm_model.proofs.texts_in_grammars.Goals as goal

pub returns : goal.returns
returns c = texts_in_grammars
