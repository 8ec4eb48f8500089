use Rattle.std.proofs.Common.{ap, refl}
use Rattle.std.specs.Fn.{CalledAt}
use Rattle.lalrpop_norm_tree_parts.specs.Bounds.{lifetime_parameter, associated_type}
use Rattle.lalrpop_norm_tree_parts.proofs.WalkLemmas.{if_err_is, if_err_has, wanting}
use Rattle.lalrpop_norm_tree_parts.proofs.bound.map.map_parameter.Goals as goal

pub returns-in_err-same_lifetime-in-Lifetime-clause-ended : goal.returns-in_err-same_lifetime-in-Lifetime-clause-ended
returns-in_err-same_lifetime-in-Lifetime-clause-ended g c =
    if_err_has (g.E.From.from_gives record {}) _ _ c.from_residual.ensures.1 (λ e m. wanting (CalledAt g.F.FnMut) (g.E.From.from_gives record {}) c.args.f.now _ e m)

pub returns-in_ok-same_lifetime-in-Lifetime-clause-kept : goal.returns-in_ok-same_lifetime-in-Lifetime-clause-kept
returns-in_ok-same_lifetime-in-Lifetime-clause-kept g c = rw (c.in-Lifetime.is) (ap lifetime_parameter c.in_ok-same_lifetime-in-Lifetime.ensures)

pub returns-in_ok-same_lifetime-in-Lifetime-clause-answered : goal.returns-in_ok-same_lifetime-in-Lifetime-clause-answered
returns-in_ok-same_lifetime-in-Lifetime-clause-answered g c = rw (c.in-Lifetime.is) refl

pub returns-in_err-map_one-in-TypeParameter-clause-ended : goal.returns-in_err-map_one-in-TypeParameter-clause-ended
returns-in_err-map_one-in-TypeParameter-clause-ended g c =
    if_err_is _ _ _ c.from_residual-in_err-map_one-in-TypeParameter.ensures.1 (rw (c.in-TypeParameter.is) c.in_err-map_one-in-TypeParameter.ensures.ended)

pub returns-in_ok-map_one-in-TypeParameter-clause-kept : goal.returns-in_ok-map_one-in-TypeParameter-clause-kept
returns-in_ok-map_one-in-TypeParameter-clause-kept g c = rw (c.in-TypeParameter.is) refl

pub returns-in_ok-map_one-in-TypeParameter-clause-answered : goal.returns-in_ok-map_one-in-TypeParameter-clause-answered
returns-in_ok-map_one-in-TypeParameter-clause-answered g c = rw (c.in-TypeParameter.is) c.in_ok-map_one-in-TypeParameter.ensures.answered

pub returns-in_err-name-in-Associated-clause-ended : goal.returns-in_err-name-in-Associated-clause-ended
returns-in_err-name-in-Associated-clause-ended g c =
    if_err_has (g.E.From.from_gives record {}) _ _ c.from_residual-in_err-name-in-Associated.ensures.1 (λ e m. wanting (CalledAt g.F.FnMut) (g.E.From.from_gives record {}) c.args.f.now _ e m)

pub returns-in_err-map_one-in-Associated-clause-ended : goal.returns-in_err-map_one-in-Associated-clause-ended
returns-in_err-map_one-in-Associated-clause-ended g c =
    if_err_is _ _ _ c.from_residual-in_err-map_one-in-Associated.ensures.1 (rw (c.in-Associated.is) c.in_err-map_one-in-Associated.ensures.ended)

pub returns-in_ok-map_one-in-Associated-clause-kept : goal.returns-in_ok-map_one-in-Associated-clause-kept
returns-in_ok-map_one-in-Associated-clause-kept g c = rw (c.in-Associated.is) (ap (λ n. associated_type n (tt {0})) c.in_ok-name-in-Associated.ensures)

pub returns-in_ok-map_one-in-Associated-clause-answered : goal.returns-in_ok-map_one-in-Associated-clause-answered
returns-in_ok-map_one-in-Associated-clause-answered g c = rw (c.in-Associated.is) c.in_ok-map_one-in-Associated.ensures.answered
