use Rattle.lalrpop_norm_tree_parts.proofs.WalkLemmas.{one_walked}
use Rattle.lalrpop_norm_tree_parts.proofs.walk.map_one.Goals as goal

pub returns-clause-answered : goal.returns-clause-answered
returns-clause-answered g c = (one_walked g.F.FnMut (g.E.From.from_gives record {}) _ _ _ _ c.f.ensures).0

pub returns-clause-ended : goal.returns-clause-ended
returns-clause-ended g c = (one_walked g.F.FnMut (g.E.From.from_gives record {}) _ _ _ _ c.f.ensures).1
