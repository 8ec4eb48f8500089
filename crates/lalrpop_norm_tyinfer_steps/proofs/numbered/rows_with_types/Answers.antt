use Rattle.std.proofs.Common.{◌≡◌, ◌++◌, [], append-nil, append_assoc, refl, sym, ap, ◌∙◌, arith}
use Rattle.lalrpop_norm_tyinfer_steps.specs.Numbered.{row_with, rows_of_rules}
use Rattle.lalrpop_norm_tyinfer_steps.proofs.NumberedLemmas.{none_left}
use Rattle.lalrpop_norm_tyinfer_steps.proofs.numbered.rows_with_types.Goals as goal

pub loop-rule-init : goal.loop-rule-init
loop-rule-init c =
    let whole : c.into_iter-rule-iterator.result.rest.items ≡ c.args.rules.items = cc in
    rw (whole, c.in_ok-rows.ensures.items) refl

pub loop-rule-preserved : goal.loop-rule-preserved
loop-rule-preserved c =
    let before = rw c.in-Some.ensures.steps.0 at c.loop-rule.invariant in
    let rest = rows_of_rules c.next.new.self.rest.items in
    ap (λ xs. xs ++ rest) c.in_ok-add_row.ensures ∙ (append_assoc c.loop-rule.rows.items (row_with c.in-Some.rule.0 c.in-Some.rule.1) rest ∙ before)

pub returns : goal.returns
returns c =
    let none : c.loop-rule.rule-iterator.rest.items ≡ [] = none_left c.loop-rule.rule-iterator.rest.items (omega (arith, c.in-None.ensures.steps.0)) in
    sym (append-nil c.loop-rule.rows.items) ∙ rw none at c.loop-rule.invariant
