use Rattle.std.proofs.Common.{map, drop}
use Rattle.lalrpop_norm_tree_parts.specs.BottomUp.{all_inside, answered_as, CalledAtRepr}
use Rattle.lalrpop_norm_tree_parts.specs.Reprs.{repr_view, reprs_view}
use Rattle.lalrpop_norm_tree_parts.proofs.BottomUpLemmas.{followed_by}
use Rattle.lalrpop_norm_tree_parts.proofs.lowered.bottom_up.+bottom_up.Given as goal

abbrev pub invariant-walk_all-loop-ty : goal.invariant-walk_all-loop-ty
invariant-walk_all-loop-ty g l =
    goal.F-IsAlwaysCallable g l.f
    × ((r : _) (last : _) → all_inside (CalledAtRepr g.F.FnMut) (g.E.From.from_gives record {}) (reprs_view (drop l.ty-index l.ty-items)) l.f r last
    → all_inside (CalledAtRepr g.F.FnMut) (g.E.From.from_gives record {}) (reprs_view l.ty-items) l.fn.f (answered_as (followed_by (map repr_view l.walked.items)) r) last)
