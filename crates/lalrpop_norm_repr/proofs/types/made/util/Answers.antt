use Rattle.std.proofs.Common.{◌≡◌, ◌∙◌}
use Rattle.lalrpop_norm_tree_parts.specs.Reprs.{repr_view}
use Rattle.lalrpop_norm_repr.proofs.NominalViews.{view_nominal_of}
use Rattle.lalrpop_norm_repr.proofs.types.made.util.Goals as goal

pub returns : goal.returns
returns c =
    let l : repr_view c.in_ok-first.first ≡ repr_view c.args.location.now = c.in_ok-first.ensures.cases in
    let t : repr_view c.in_ok-second.second ≡ repr_view c.args.token.now = c.in_ok-second.ensures.cases in
    let e : repr_view c.in_ok-third.third ≡ repr_view c.args.error.now = c.in_ok-third.ensures.cases in
    view_nominal_of c.in_ok-path.path c.in_ok-types.types _ _ c.in_ok-path.ensures
    (c.in_ok-types.ensures ∙ rw (l, t, e))
