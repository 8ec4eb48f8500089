use Rattle.std.proofs.Common.{◌≡◌, take, map}
use Rattle.lalrpop_norm_tree_parts.specs.Reprs.{repr_view}
use Rattle.lalrpop_norm_tree.specs.LoweredTypes.{repr_of}
use Rattle.lalrpop_norm_tree.specs.Types.{type_view}
use Rattle.lalrpop_norm_tyinfer.proofs.tyinfer.tokens.lowered_types.Given as goal

abbrev pub invariant-loop-ty : goal.invariant-loop-ty
invariant-loop-ty l = map repr_view l.types.items ≡ map (λ t. repr_of (type_view t.now)) (take l.ty-index l.written)
