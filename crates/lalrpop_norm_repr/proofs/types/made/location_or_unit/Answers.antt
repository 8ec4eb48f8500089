use Rattle.std.proofs.Common.{ap, ◌∙◌}
use Rattle.lalrpop_norm_tree_parts.specs.Reprs.{tuple, reprs_view}
use Rattle.lalrpop_norm_tree_parts.proofs.ReprViews.{view_tuple}
use Rattle.lalrpop_norm_repr.proofs.types.made.location_or_unit.Goals as goal

pub returns-in_ok-clone-in-Some : goal.returns-in_ok-clone-in-Some
returns-in_ok-clone-in-Some c = rw c.in-Some.is c.in_ok-clone-in-Some.ensures.cases

pub returns-in-None : goal.returns-in-None
returns-in-None c = rw c.in-None.is (view_tuple c.new-types.result ∙ ap (λ ts. tuple (reprs_view ts)) c.new-types.ensures.items)
