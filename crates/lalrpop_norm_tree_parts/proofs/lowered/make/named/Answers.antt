use Rattle.lalrpop_norm_tree_parts.proofs.ReprViews.{view_named}
use Rattle.lalrpop_norm_tree_parts.proofs.lowered.make.named.Goals as goal

pub returns : goal.returns
returns c = view_named c.in_ok-path.path c.new-types.result c.args.name c.in_ok-path.ensures c.new-types.ensures.items
