use Rattle.lalrpop_norm_model.proofs.TextLemmas.{texts_displayed}
use Rattle.lalrpop_norm_model.proofs.texts_are_displayed.Goals as goal

pub returns : goal.returns
returns c = texts_displayed
