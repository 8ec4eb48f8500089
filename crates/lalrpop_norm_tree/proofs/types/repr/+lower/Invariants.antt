use Rattle.std.proofs.Common.{◌≡◌, map, take}
use Rattle.lalrpop_norm_tree.specs.LoweredTypes.{repr_of}
use Rattle.lalrpop_norm_tree_parts.specs.Reprs.{repr_view}
use Rattle.lalrpop_norm_tree.specs.Types.{type_view}
use Rattle.lalrpop_norm_tree.proofs.types.repr.+lower.Given as goal

abbrev pub invariant-lower_all-loop-inner : goal.invariant-lower_all-loop-inner
invariant-lower_all-loop-inner l = map repr_view l.lowered.items ≡ map (λ t. repr_of (type_view t)) (take l.inner-index l.types)
