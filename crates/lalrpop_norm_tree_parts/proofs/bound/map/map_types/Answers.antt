use Rattle.std.proofs.Common.{arith, of_calls, sym}
use Rattle.lalrpop_norm_tree_parts.proofs.WalkLemmas.{if_err_is, if_err_has, list_answered, list_ended, list_wanting}
use Rattle.lalrpop_norm_tree_parts.proofs.bound.map.map_types.Goals as goal

pub returns-in_err-f-clause-ended : goal.returns-in_err-f-clause-ended
returns-in_err-f-clause-ended g c =
    if_err_is _ _ _ c.from_residual.ensures.1
    (list_ended g.F.FnMut _ _ _ _ _ _ c.ty-item.result _ _ (omega arith) (sym c.ty-item.is) c.loop-ty.invariant.1 c.f.ensures (g.E.From.from_gives record {}) _ c.in_err-f.was)

pub returns-in_err-add-clause-ended : goal.returns-in_err-add-clause-ended
returns-in_err-add-clause-ended g c =
    if_err_has (g.E.From.from_gives record {}) _ _ c.from_residual-in_err-add.ensures.1
    (λ e m. list_wanting g.F.FnMut _ _ _ _ _ _ c.ty-item.result _ _ (omega arith) (sym c.ty-item.is) c.loop-ty.invariant.1 c.f.ensures (g.E.From.from_gives record {}) _ e c.in_ok-f.was m)

pub loop-ty-preserved : goal.loop-ty-preserved
loop-ty-preserved g c = (
  search of_calls,
  rw (c.in_ok-add.ensures) (list_answered g.F.FnMut _ _ _ _ _ _ c.ty-item.result _ _ (omega arith) (sym c.ty-item.is) c.loop-ty.invariant.1 c.f.ensures _ c.in_ok-f.was),
)
