use Rattle.std.proofs.Common.{refl, ap, ◌∙◌}
use Rattle.lalrpop_norm_repr.proofs.TypeNames.{passed, taken, all_taken}
use Rattle.lalrpop_norm_repr.proofs.whole.lookups.names.Goals as goal
use Rattle.lalrpop_norm_repr.proofs.whole.lookups.names.Goals.{in-Lifetime, in-Id+in_ok-push-in-Id}

pub loop-parameter-preserved : goal.loop-parameter-preserved
loop-parameter-preserved c =
    elim c.match-parameter.branch [
      | in-Lifetime w ↦
          passed c.args.parameters.now c.loop-parameter.parameter-index c.parameter-item.result c.loop-parameter.names.items _ c.loop-parameter-test.true c.parameter-item.is c.loop-parameter.invariant
          _ _ w.in-Lifetime.is (ap (λ v. v.items) w.names-is)
      | in-Id+in_ok-push-in-Id w ↦
          taken c.args.parameters.now c.loop-parameter.parameter-index c.parameter-item.result c.loop-parameter.names.items _ c.loop-parameter-test.true c.parameter-item.is c.loop-parameter.invariant
          _ _ _ w.in-Id.is (ap (λ v. v.items) w.names-is ∙ w.in_ok-push-in-Id.ensures.items) refl
    ]

pub returns : goal.returns
returns c = all_taken c.args.parameters.now c.loop-parameter.parameter-index c.loop-parameter.names.items c.loop-parameter-test.false c.loop-parameter.invariant
