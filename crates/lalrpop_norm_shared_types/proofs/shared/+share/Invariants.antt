use Rattle.std.proofs.Common.{◌≡◌, map, take}
use Rattle.lalrpop_norm_tree_parts.specs.Reprs.{repr_view}
use Rattle.lalrpop_norm_shared_types.specs.Shared.{shared_view}
use Rattle.lalrpop_norm_shared_types.proofs.shared.+share.Given as goal

abbrev pub invariant-share::all_of-loop-inner : goal.invariant-share::all_of-loop-inner
invariant-share::all_of-loop-inner l = map shared_view l.all.items ≡ map repr_view (take l.inner-index l.inner-items)
