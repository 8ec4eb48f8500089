use Rattle.std.proofs.Common.{◌≡◌, false, ◌++◌, List, [], ◌∷◌, ℕ, ap, ap₂, ◌∙◌, codes}
use Rattle.lalrpop_norm_tree_parts.specs.Paths.{PathData}
use Rattle.lalrpop_norm_repr.proofs.types.made.util_path.Goals as goal

pub returns : goal.returns
returns c =
    let path : List (List ℕ) → PathData = λ ids. record { absolute = false; ids = ids } in
    let first : c.in_ok-first.first ≡ c.args.prefix.now ++ codes "lalrpop_util" =
    c.in_ok-first.ensures ∙ c.as_str.ensures.value ∙ c.in_ok-push_str.ensures.bytes ∙ ap (λ bs. bs ++ codes "lalrpop_util") c.in_ok-module.ensures.ok in
    ap path
    (c.in_ok-push-2.ensures.items
    ∙ ap (λ xs. xs ++ c.in_ok-second.second ∷ []) (c.in_ok-push.ensures.items ∙ ap (λ xs. xs ++ c.in_ok-first.first ∷ []) c.in_ok-ids.ensures.items)
    ∙ ap₂ (λ a b. a ∷ b ∷ []) first c.in_ok-second.ensures)
