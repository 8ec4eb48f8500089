use Rattle.std.proofs.Common.{◌++◌, [], ◌∷◌, ap, ◌∙◌}
use Rattle.lalrpop_norm_tree_parts.specs.Reprs.{reprs_view}
use Rattle.lalrpop_norm_repr.proofs.types.made.three.Goals as goal

pub returns : goal.returns
returns c =
    ap reprs_view
    (c.in_ok-push-3.ensures.items
    ∙ ap (λ xs. xs ++ c.args.third ∷ [])
    (c.in_ok-push-2.ensures.items ∙ ap (λ xs. xs ++ c.args.second ∷ []) (c.in_ok-push.ensures.items ∙ ap (λ xs. xs ++ c.args.first ∷ []) c.in_ok-types.ensures.items)))
