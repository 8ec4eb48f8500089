use Rattle.lalrpop_norm_model.proofs.HandedLemmas.{disabled_are_no_matter}
use Rattle.lalrpop_norm_model.proofs.disabled_are_no_matter.Goals as goal

pub returns : goal.returns
returns c = disabled_are_no_matter
