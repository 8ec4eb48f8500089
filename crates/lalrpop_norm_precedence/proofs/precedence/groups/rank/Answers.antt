use Rattle.lalrpop_norm_precedence.proofs.GroupLemmas.{place_not_found}
use Rattle.lalrpop_norm_precedence.proofs.precedence.groups.rank.Goals as goal

pub returns-in-Err : goal.returns-in-Err
returns-in-Err c = place_not_found c.args.levels.now c.args.level c.in-Err.i (rw c.in-Err.is at c.binary_search.ensures.position) c.requires.rising c.requires.there
