use Rattle.std.proofs.Common.{◌≡◌}
use Rattle.lalrpop_norm_tree.specs.Types.{type_view}
use Rattle.lalrpop_norm_tree_parts.proofs.BoundViews.{same_clause_views}
use Rattle.lalrpop_norm_tree.proofs.items.copy_grammar.copy_clause.Goals as goal

pub returns : goal.returns
returns c = same_clause_views (λ t u. type_view u ≡ type_view t) type_view (λ t u same. same) c.args.clause.now c.in_ok-clone.field-0 c.in_ok-clone.ensures
