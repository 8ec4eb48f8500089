use Rattle.lalrpop_norm_nodes.proofs.MeetLemmas.{standing_met}
use Rattle.lalrpop_norm_nodes.proofs.laws.standing_meets_nothing.Goals as goal

pub returns : goal.returns
returns c = standing_met
