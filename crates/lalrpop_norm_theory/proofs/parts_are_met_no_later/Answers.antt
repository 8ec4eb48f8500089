use Rattle.lalrpop_norm_theory.proofs.MadeLemmas.{parts_met_no_later}
use Rattle.lalrpop_norm_theory.proofs.parts_are_met_no_later.Goals as goal

pub returns : goal.returns
returns c = parts_met_no_later
