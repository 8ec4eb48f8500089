use Rattle.std.proofs.Common.{◌≡◌, None, sym, ◌∙◌}
use Rattle.std.proofs.lemmas.Result.{IfOk-from_err}
use Rattle.lalrpop_norm_shared_types.specs.Shared.{shared_view}
use Rattle.lalrpop_norm_tyinfer_steps.specs.Numbered.{numbered_table}
use Rattle.lalrpop_norm_tyinfer_steps.specs.TableValues.{type_by_name}
use Rattle.lalrpop_norm_tyinfer_steps.specs.Visits.{rule_seen}
use Rattle.lalrpop_norm_tyinfer_steps.proofs.NumberedRounds.{nothing_put, put_same, put_taken}
use Rattle.lalrpop_norm_tyinfer_steps.proofs.RoundLemmas.{not_some, steps_still, steps_taken}
use Rattle.lalrpop_norm_tyinfer_steps.proofs.StopLemmas.{if_ok}
use Rattle.lalrpop_norm_tyinfer_steps.proofs.VisitLemmas.{taken_none, taken_typed}
use Rattle.lalrpop_norm_tyinfer.proofs.tyinfer.rounds.step.Goals as goal

pub is_typed-requires : goal.is_typed-requires
is_typed-requires c = c.requires.within

pub returns-then-is_typed-clause-visits : goal.returns-then-is_typed-clause-visits
returns-then-is_typed-clause-visits c =
    rw c.new.ensures.items (steps_still c.args.inference.now.parameters.now (numbered_table c.args.types.now) (numbered_table c.args.types.now) (rule_seen c.args.rule.now) c.args.place c.args.stops.now
    (taken_typed (numbered_table c.args.types.now) c.args.rule.now.data.now.name.0 _ (sym c.requires.told ∙ (sym c.is_typed.ensures ∙ c.if-is_typed.true))))

pub returns-then-is_typed-clause-numbers : goal.returns-then-is_typed-clause-numbers
returns-then-is_typed-clause-numbers c = nothing_put c.args.types.now

pub put-requires : goal.put-requires
put-requires c = c.requires.number.within

pub give_type-requires-clause-stops : goal.give_type-requires-clause-stops
give_type-requires-clause-stops c = c.requires.sound

pub give_type-requires-clause-within : goal.give_type-requires-clause-within
give_type-requires-clause-within c = c.requires.within

pub returns-in-Some-clause-visits : goal.returns-in-Some-clause-visits
returns-in-Some-clause-visits c =
    let tt = numbered_table c.args.types.now in
    let name = c.args.rule.now.data.now.name.0 in
    let untyped : type_by_name tt name ≡ None = not_some (type_by_name tt name) (sym c.requires.told ∙ (sym c.is_typed.ensures ∙ c.if-is_typed.false)) in
    let takes = put_taken c.args.types.now c.put.new.self name c.args.place (shared_view c.in-Some.ty) c.requires.number c.put.ensures _ untyped (rw c.in-Some.is at c.in_ok-ty.ensures) in
    if_ok c.give_type.result c.give_type.ensures
    (λ ready g. steps_taken c.args.inference.now.parameters.now tt (numbered_table c.put.new.self) (rule_seen c.args.rule.now) c.args.place c.args.stops.now c.give_type.new.self ready.items takes g)

pub returns-in-Some-clause-numbers : goal.returns-in-Some-clause-numbers
returns-in-Some-clause-numbers c =
    let same = put_same c.args.types.now c.put.new.self c.args.rule.now.data.now.name.0 c.args.place (shared_view c.in-Some.ty) c.requires.number c.put.ensures in
    if_ok c.give_type.result c.give_type.ensures (λ ready g. same)

pub returns-in-None-clause-visits : goal.returns-in-None-clause-visits
returns-in-None-clause-visits c =
    let tt = numbered_table c.args.types.now in
    let name = c.args.rule.now.data.now.name.0 in
    let untyped : type_by_name tt name ≡ None = not_some (type_by_name tt name) (sym c.requires.told ∙ (sym c.is_typed.ensures ∙ c.if-is_typed.false)) in
    rw c.new-in-None.ensures.items (steps_still c.args.inference.now.parameters.now tt tt (rule_seen c.args.rule.now) c.args.place c.args.stops.now (taken_none tt name _ untyped (rw c.in-None.is at c.in_ok-ty.ensures)))

pub returns-in-None-clause-numbers : goal.returns-in-None-clause-numbers
returns-in-None-clause-numbers c = nothing_put c.args.types.now

pub returns-in_err-ty : goal.returns-in_err-ty
returns-in_err-ty c = record {
  visits = IfOk-from_err _ _ c.from_residual.ensures.0;
  numbers = IfOk-from_err _ _ c.from_residual.ensures.0;
}
