use Rattle.lalrpop_norm_model.proofs.WrittenLemmas.{scoped_as_written}
use Rattle.lalrpop_norm_model.proofs.scoped_as_written.Goals as goal

pub returns : goal.returns
returns c = scoped_as_written
