use Rattle.lalrpop_norm_tyinfer.proofs.ChosenLemmas.{lowered_as_chosen}
use Rattle.lalrpop_norm_tyinfer.proofs.tyinfer.tokens.chosen_types.Goals as goal

pub returns : goal.returns
returns c = lowered_as_chosen _ _ _ _ c.deref.ensures.value c.in_ok-chosen.ensures c.lowered_types.ensures
