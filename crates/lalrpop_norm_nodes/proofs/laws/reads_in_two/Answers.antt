use Rattle.lalrpop_norm_nodes.proofs.ReadLemmas.{read_meets, read_refused}
use Rattle.lalrpop_norm_nodes.proofs.laws.reads_in_two.Goals as goal

pub returns : goal.returns
returns c = λ a b d s k h none g. (read_meets a b d s k h g, read_refused a b s k h none)
