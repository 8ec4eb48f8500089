use Rattle.std.proofs.Common.{rules, map, string_bytes}
use Rattle.lnorm_c.proofs.ExplainLemmas.{asks_for_no_trees, asks_for_trees}
use Rattle.lnorm_c.proofs.trees.asked_in.Goals as goal

pub returns-in-Ok-clause-ok : goal.returns-in-Ok-clause-ok
returns-in-Ok-clause-ok c =
    asks_for_trees c.asked_with.result c.args.way c.args.words.now (map string_bytes c.deref.result.now) (search rules) c.asked_with.ensures.ok

pub returns-in-Ok-clause-usage : goal.returns-in-Ok-clause-usage
returns-in-Ok-clause-usage c = λ is.
    asks_for_no_trees c.args.words.now (map string_bytes c.deref.result.now) (search rules) (c.asked_with.ensures.usage is)
