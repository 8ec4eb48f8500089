use Rattle.lalrpop_norm_tree_parts.proofs.LoweredTextLemmas.{bound_printed}
use Rattle.lalrpop_norm_tree_parts.proofs.lowered.show.show_bound.Goals as goal

pub returns : goal.returns
returns g c = rw (bound_printed c.args.bound.now) at c.fmt.ensures.writes
