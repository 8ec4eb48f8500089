use Rattle.std.proofs.Common.{rules}
use Rattle.lalrpop_norm_tree_parts.specs.Reprs.{repr_view}
use Rattle.lalrpop_norm_tree_parts.proofs.BoundMapLaws.{bound_map_gives}
use Rattle.lalrpop_norm_tree.specs.Types.{type_view}
use Rattle.lalrpop_norm_tree.specs.LoweredTypes.{repr_of}
use Rattle.lalrpop_norm_lower.proofs.clauses.lowered_bound.Goals as goal

pub returns : goal.returns
returns c = bound_map_gives _ type_view repr_view repr_of (λ s s' y u k. search rules) _ _ c.args.bound.now c.map.result c.map.ensures.kept c.map.ensures.answered
