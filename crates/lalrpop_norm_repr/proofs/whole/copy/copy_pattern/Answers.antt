use Rattle.std.proofs.Common.{◌≡◌}
use Rattle.lalrpop_norm_tree_parts.specs.Reprs.{repr_view}
use Rattle.lalrpop_norm_tree_patterns.proofs.PatternViews.{same_views}
use Rattle.lalrpop_norm_repr.proofs.whole.copy.copy_pattern.Goals as goal

pub returns : goal.returns
returns c = same_views (λ t u. repr_view u ≡ repr_view t) repr_view (λ t u same. same) c.args.pattern.now c.in_ok-clone.field-0 c.in_ok-clone.ensures
