use Rattle.std.proofs.Common.{rules}
use Rattle.lalrpop_norm_precedence_steps.proofs.levels.without_levels.Goals as goal

pub returns : goal.returns
returns c = search rules
