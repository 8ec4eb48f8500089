use Rattle.lalrpop_norm_origins.proofs.KeptLists.{calls_keep}
use Rattle.lalrpop_norm_origins.proofs.laws.calls_keep_origins.Goals as goal

pub returns : goal.returns
returns c = calls_keep
