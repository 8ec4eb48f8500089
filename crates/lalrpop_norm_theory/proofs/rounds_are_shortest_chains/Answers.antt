use Rattle.lalrpop_norm_theory.proofs.Expansion.{rounds_shortest}
use Rattle.lalrpop_norm_theory.proofs.rounds_are_shortest_chains.Goals as goal

pub returns : goal.returns
returns c = rounds_shortest
