use Rattle.std.proofs.Common.{◌≡◌, map, take}
use Rattle.lalrpop_norm_tree.specs.Types.{type_view}
use Rattle.lalrpop_norm_tree.proofs.types.copy.+copy.Given as goal

abbrev pub invariant-copy_all-loop-inner : goal.invariant-copy_all-loop-inner
invariant-copy_all-loop-inner l = map type_view l.copies.items ≡ map type_view (take l.inner-index l.types)
