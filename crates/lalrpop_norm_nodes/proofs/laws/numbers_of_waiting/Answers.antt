use Rattle.lalrpop_norm_nodes.proofs.WaitLemmas.{waiting_numbers}
use Rattle.lalrpop_norm_nodes.proofs.laws.numbers_of_waiting.Goals as goal

pub returns : goal.returns
returns c = waiting_numbers
