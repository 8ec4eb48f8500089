use Rattle.lalrpop_norm_origins.proofs.MadeLists.{lists_joined}
use Rattle.lalrpop_norm_origins.proofs.laws.lists_are_plain_origins.Goals as goal

pub returns : goal.returns
returns c = lists_joined
