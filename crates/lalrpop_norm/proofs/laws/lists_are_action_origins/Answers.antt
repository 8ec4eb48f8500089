use Rattle.lalrpop_norm.proofs.TracedOrigins.{lists_are_action_origins}
use Rattle.lalrpop_norm.proofs.laws.lists_are_action_origins.Goals as goal

pub returns : goal.returns
returns c = lists_are_action_origins
