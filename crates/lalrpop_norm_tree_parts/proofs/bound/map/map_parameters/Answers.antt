use Rattle.std.proofs.Common.{arith, refl}
use Rattle.std.proofs.lemmas.List.{take_all}
use Rattle.std.proofs.lemmas.List.Folds.{flat_map-map}
use Rattle.std.proofs.lemmas.Simd.{map-map}
use Rattle.std.specs.Fn.{CalledAt}
use Rattle.lalrpop_norm_tree_parts.specs.Bounds.{bound_parameter_view}
use Rattle.lalrpop_norm_tree_parts.specs.MappedBounds.{bound_parameter_shape, types_in_parameter}
use Rattle.lalrpop_norm_tree_parts.proofs.WalkLemmas.{if_err_is, if_err_has, shape_more, loop_answered, loop_ended, loop_wanting}
use Rattle.lalrpop_norm_tree_parts.proofs.bound.map.map_parameters.Goals as goal

pub returns-in_err-map_parameter-clause-ended : goal.returns-in_err-map_parameter-clause-ended
returns-in_err-map_parameter-clause-ended g c =
    if_err_is _ _ _ c.from_residual.ensures.1
    (rw (flat_map-map)
    (loop_ended (CalledAt g.F.FnMut) (λ p. types_in_parameter (bound_parameter_view (λ t. t) p)) (λ p. types_in_parameter (bound_parameter_view (λ u. u) p)) (g.E.From.from_gives record {})
    c.args.f.now c.loop-parameter.f c.map_parameter.new.f c.args.parameters.now c.loop-parameter.mapped.items c.loop-parameter.parameter-index c.parameter-item.result c.in_err-map_parameter.field-0.0
    (omega arith) c.loop-parameter.invariant.2 (rw (← c.parameter-item.is) c.in_err-map_parameter.ensures.ended)))

pub returns-in_err-add-clause-ended : goal.returns-in_err-add-clause-ended
returns-in_err-add-clause-ended g c =
    if_err_has (g.E.From.from_gives record {}) _ _ c.from_residual-in_err-add.ensures.1
    (λ e m. rw (flat_map-map)
    (loop_wanting (CalledAt g.F.FnMut) (λ p. types_in_parameter (bound_parameter_view (λ t. t) p)) (λ p. types_in_parameter (bound_parameter_view (λ u. u) p)) (g.E.From.from_gives record {})
    c.args.f.now c.loop-parameter.f c.map_parameter.new.f c.args.parameters.now c.loop-parameter.mapped.items c.loop-parameter.parameter-index c.parameter-item.result c.in_ok-map_parameter.field-0 e
    (omega arith) c.loop-parameter.invariant.2 (rw (← c.parameter-item.is) c.in_ok-map_parameter.ensures.answered) m))

pub loop-parameter-preserved : goal.loop-parameter-preserved
loop-parameter-preserved g c =
    rw (c.in_ok-add.ensures) (
      c.map_parameter.ensures.again,
      shape_more (λ p. bound_parameter_shape (bound_parameter_view (λ t. t) p)) (λ p. bound_parameter_shape (bound_parameter_view (λ u. u) p))
          c.args.parameters.now c.loop-parameter.mapped.items c.loop-parameter.parameter-index c.parameter-item.result c.in_ok-map_parameter.field-0
          (omega arith) c.loop-parameter.invariant.1 (rw (← c.parameter-item.is) c.in_ok-map_parameter.ensures.kept),
      loop_answered (CalledAt g.F.FnMut) (λ p. types_in_parameter (bound_parameter_view (λ t. t) p)) (λ p. types_in_parameter (bound_parameter_view (λ u. u) p))
          c.args.f.now c.loop-parameter.f c.map_parameter.new.f c.args.parameters.now c.loop-parameter.mapped.items c.loop-parameter.parameter-index c.parameter-item.result c.in_ok-map_parameter.field-0
          (omega arith) c.loop-parameter.invariant.2 (rw (← c.parameter-item.is) c.in_ok-map_parameter.ensures.answered),
    )

pub returns-clause-kept : goal.returns-clause-kept
returns-clause-kept g c =
    rw (
      map-map bound_parameter_shape (bound_parameter_view (λ u. u)),
      map-map bound_parameter_shape (bound_parameter_view (λ t. t)),
      c.loop-parameter.invariant.1,
      take_all c.loop-parameter.parameter-index c.args.parameters.now (omega arith),
    ) refl

pub returns-clause-answered : goal.returns-clause-answered
returns-clause-answered g c =
    rw (flat_map-map, flat_map-map, ← take_all c.loop-parameter.parameter-index c.args.parameters.now (omega arith)) c.loop-parameter.invariant.2
