use Rattle.std.proofs.Common.{◌≡◌, [], append-nil, refl, sym, ◌∙◌, arith}
use Rattle.lalrpop_norm_tyinfer_steps.proofs.NumberedLemmas.{none_at_first, none_more, none_left, name_moved}
use Rattle.lalrpop_norm_tyinfer_steps.proofs.numbered.untyped.Goals as goal

pub loop-name-init : goal.loop-name-init
loop-name-init c =
    let whole : c.into_iter-name-iterator.result.rest.items ≡ c.args.names.items = cc in
    rw (whole, c.in_ok-rules.ensures.items) (record { names = refl; none = none_at_first })

pub loop-name-preserved : goal.loop-name-preserved
loop-name-preserved c =
    let before = rw c.in-Some.ensures.steps.0 at c.loop-name.invariant in
    rw c.in_ok-push.ensures.items (record {
      names = name_moved c.loop-name.rules.items c.in-Some.name c.next.new.self.rest.items ∙ before.names;
      none = none_more c.loop-name.rules.items c.in-Some.name before.none;
    })

pub returns-clause-names : goal.returns-clause-names
returns-clause-names c =
    let none : c.loop-name.name-iterator.rest.items ≡ [] = none_left c.loop-name.name-iterator.rest.items (omega (arith, c.in-None.ensures.steps.0)) in
    sym (append-nil _) ∙ rw none at c.loop-name.invariant.names
