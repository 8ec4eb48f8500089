use Rattle.std.proofs.Common.{◌≡◌, map, take}
use Rattle.lalrpop_norm_tree_parts.specs.Reprs.{repr_view}
use Rattle.lalrpop_norm_shared_types.specs.Shared.{shared_view}
use Rattle.lalrpop_norm_shared_types.proofs.action.copies_of.Given as goal

abbrev pub invariant-loop-ty : goal.invariant-loop-ty
invariant-loop-ty l = map repr_view l.copies.items ≡ map shared_view (take l.ty-index l.types)
