use Rattle.lalrpop_norm_macro_expand.proofs.DistinctLemmas.{names_stay_distinct}
use Rattle.lalrpop_norm_macro_expand.proofs.names_stay_distinct.Goals as goal

pub returns : goal.returns
returns c = names_stay_distinct
