-- Resolved names are distinct: a rule that shares one is rejected.
use Rattle.lalrpop_norm_tree.specs.Items.{grammar_view}
use Rattle.lalrpop_norm.proofs.ScopedLemmas.{names_once}
use Rattle.cases.proofs.passes.resolved.Goals as goal

pub returns : goal.returns
returns c = names_once (grammar_view c.in_ok-tree.tree) c.in_ok-tree.ensures.once.0
