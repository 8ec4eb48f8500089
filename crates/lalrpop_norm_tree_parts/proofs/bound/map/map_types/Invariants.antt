use Rattle.std.proofs.Common.{take}
use Rattle.std.specs.Fn.{CalledAt}
use Rattle.lalrpop_norm_tree_parts.specs.Walks.{Answered}
use Rattle.lalrpop_norm_tree_parts.proofs.bound.map.map_types.Given as goal

abbrev pub invariant-loop-ty : goal.invariant-loop-ty
invariant-loop-ty g l = goal.F-IsAlwaysCallable g l.f × Answered (CalledAt g.F.FnMut) l.fn.f (take l.ty-index l.types) l.mapped.items l.f
