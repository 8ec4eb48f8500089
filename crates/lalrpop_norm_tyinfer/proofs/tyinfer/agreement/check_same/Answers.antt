use Rattle.std.proofs.Common.{Bor, ap, sym, ◌∙◌}
use Rattle.std.specs.Prelude.{option_map}
use Rattle.lalrpop_norm_shared_types.specs.declared.shared.SharedType.{SharedType}
use Rattle.lalrpop_norm_shared_types.specs.Shared.{shared_view}
use Rattle.lalrpop_norm_tyinfer.proofs.AgreementLemmas.{same_agrees, other_told}
use Rattle.lalrpop_norm_tyinfer.proofs.tyinfer.agreement.check_same.Goals as goal

pub returns-then-branch : goal.returns-then-branch
returns-then-branch c =
    same_agrees (shared_view c.in-Some-Some.given) (shared_view c.in-Some-Some.own.now) _ _ _ (ap (option_map shared_view) c.in-Some-Some.is-0)
    (ap (option_map (λ (t : Bor SharedType). shared_view t.now)) c.in-Some-Some.is-1) (sym c.if-branch.true ∙ c.in_ok-is_same_type-in-Some-Some.ensures)

pub returns-else-branch : goal.returns-else-branch
returns-else-branch c =
    other_told (shared_view c.in-Some-Some.given) (shared_view c.in-Some-Some.own.now) _ _ _ c.refusal.result (ap (option_map shared_view) c.in-Some-Some.is-0)
    (ap (option_map (λ (t : Bor SharedType). shared_view t.now)) c.in-Some-Some.is-1) (sym c.if-branch.false ∙ c.in_ok-is_same_type-in-Some-Some.ensures) c.refusal.ensures.first
