use Rattle.lalrpop_norm.proofs.CapLemmas.{cap_exact}
use Rattle.lalrpop_norm.proofs.laws.cap_is_exact.Goals as goal

pub returns : goal.returns
returns c = cap_exact c.rounds_are_read.ensures c.rounds_are_shortest_chains.ensures
