use Rattle.lalrpop_norm_precedence_steps.proofs.LowestLemmas.{lowest_levels_bound_themselves}
use Rattle.lalrpop_norm_precedence_steps.proofs.laws.lowest_levels_bound_themselves.Goals as goal

pub returns : goal.returns
returns c = lowest_levels_bound_themselves
