use Rattle.lalrpop_norm_origins.proofs.LevelLists.{level_lists}
use Rattle.lalrpop_norm_origins.proofs.laws.level_origins_are_rule_origins.Goals as goal

pub returns : goal.returns
returns c = level_lists
