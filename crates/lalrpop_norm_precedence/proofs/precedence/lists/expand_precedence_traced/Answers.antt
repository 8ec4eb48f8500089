use Rattle.std.proofs.Common.{◌≡◌, ◌∙◌, ap, map}
use Rattle.lalrpop_norm_tree.specs.Items.{item_view, grammar_view}
use Rattle.lalrpop_norm_origins.specs.Origins.{origin_lists}
use Rattle.lalrpop_norm_precedence.specs.LevelLists.{leveled_lists}
use Rattle.lalrpop_norm_precedence.proofs.LevelListShapes.{answer_shaped}
use Rattle.lalrpop_norm_precedence.proofs.precedence.lists.expand_precedence_traced.Goals as goal

pub returns-clause-shaped : goal.returns-clause-shaped
returns-clause-shaped c =
    let made : origin_lists c.in_ok-lists.lists.items ≡ leveled_lists (grammar_view c.args.grammar).items (origin_lists c.args.origins.items) =
    c.in_ok-lists.ensures ∙ ap (λ xs. leveled_lists (map item_view xs) (origin_lists c.args.origins.items)) c.deref.ensures.value in
    answer_shaped (grammar_view c.args.grammar) (grammar_view c.in_ok-leveled.leveled) (origin_lists c.args.origins.items) (origin_lists c.in_ok-lists.lists.items)
    c.requires.shape c.in_ok-leveled.ensures.expands.1 made
