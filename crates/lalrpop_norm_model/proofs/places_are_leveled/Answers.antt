use Rattle.lalrpop_norm_model.proofs.StatedLemmas.{places_are_leveled}
use Rattle.lalrpop_norm_model.proofs.places_are_leveled.Goals as goal

pub returns : goal.returns
returns c = places_are_leveled
