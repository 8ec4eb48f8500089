use Rattle.std.proofs.Common.{◌≡◌, map, take}
use Rattle.lalrpop_norm_tree_parts.specs.Reprs.{repr_view}
use Rattle.lalrpop_norm_shared_types.specs.Shared.{shared_view}
use Rattle.lalrpop_norm_shared_types.proofs.shared.+copy.Given as goal

abbrev pub invariant-copy::copy_all-loop-inner : goal.invariant-copy::copy_all-loop-inner
invariant-copy::copy_all-loop-inner l = map repr_view l.copies.items ≡ map shared_view (take l.inner-index l.inner-items)
