use Rattle.lalrpop_norm_theory.proofs.Expansion.{rounds_in_order}
use Rattle.lalrpop_norm_theory.proofs.rounds_are_in_order.Goals as goal

pub returns : goal.returns
returns c = rounds_in_order
