use Rattle.std.proofs.Common.{◌≡◌, map, take}
use Rattle.lalrpop_norm_tree_parts.specs.Reprs.{repr_view}
use Rattle.lalrpop_norm_tree_parts.proofs.lowered.copy.+copy.Given as goal

abbrev pub invariant-copy_reprs-loop-inner : goal.invariant-copy_reprs-loop-inner
invariant-copy_reprs-loop-inner l = map repr_view l.copies.items ≡ map repr_view (take l.inner-index l.inner-items)
