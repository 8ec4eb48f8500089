use Rattle.lalrpop_norm_model.proofs.RoundReadLemmas.{made_symbols_are_scoped}
use Rattle.lalrpop_norm_model.proofs.made_symbols_are_scoped.Goals as goal

pub returns : goal.returns
returns c = made_symbols_are_scoped
