use Rattle.std.proofs.Common.{[]}
use Rattle.std.proofs.lemmas.Result.{on_ok_weaker}
use Rattle.lalrpop_norm_names.specs.Numbers.{number_in_table}
use Rattle.lalrpop_norm_tyinfer_steps.proofs.NeedLemmas.{adds_none, adds_more}
use Rattle.lalrpop_norm_tyinfer_steps.proofs.needs.add_needs.Goals as goal

pub returns-in_ok-push-in-Declared : goal.returns-in_ok-push-in-Declared
returns-in_ok-push-in-Declared c =
    let number = number_in_table c.args.names.now in
    let ps = c.args.parameters.now in
    let before = c.args.needs.now.items in
    rw (c.in-Declared.is, c.in_ok-push-in-Declared.ensures.items)
    (adds_more number ps before before [] _ c.args.rule _ (adds_none number ps before c.args.rule) c.in_ok-need_of_type-in-Declared.ensures)

pub returns-in-Alternatives : goal.returns-in-Alternatives
returns-in-Alternatives c =
    rw c.in-Alternatives.is (on_ok_weaker c.add_clauses.result (λ adds. adds c.args.parameters.now) (rw c.deref.ensures.value at c.add_clauses.ensures))
