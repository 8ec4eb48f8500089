use Rattle.lalrpop_norm_model.proofs.LevelRuleLemmas.{level_rules_are_read}
use Rattle.lalrpop_norm_model.proofs.level_rules_are_read.Goals as goal

pub returns : goal.returns
returns c = level_rules_are_read
