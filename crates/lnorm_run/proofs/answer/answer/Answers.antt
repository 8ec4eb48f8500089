use Rattle.std.proofs.lemmas.Result.{IfOk-weaker, IfErr-weaker, err_from_is_err_and}
use Rattle.lalrpop_norm_tree.specs.Items.{grammar_view}
use Rattle.lnorm_run.specs.Settings.{settings_view}
use Rattle.lnorm_run.proofs.HaltLemmas.{told_explained}
use Rattle.lnorm_run.proofs.answer.answer.Goals as goal

pub returns-in_err-tree-clause-err : goal.returns-in_err-tree-clause-err
returns-in_err-tree-clause-err c =
    let p = err_from_is_err_and c.from_residual.result c.from_residual.ensures.1 in
    rw (p.1, p.2) (rw c.deref.ensures.value at c.in_err-tree.ensures.err (settings_view c.args.asked.now))

pub returns-clause-ok : goal.returns-clause-ok
returns-clause-ok c = IfOk-weaker c.text_for.result _ _
    (λ text right. record { tree = grammar_view c.in_ok-tree.tree; form = rw c.deref.ensures.value at c.in_ok-tree.ensures.ok; right = right })
    c.text_for.ensures.ok

pub returns-clause-err : goal.returns-clause-err
returns-clause-err c = IfErr-weaker c.text_for.result _ _
    (λ h told. told_explained (settings_view c.args.asked.now) c.args.bytes.items (grammar_view c.in_ok-tree.tree) h
    (rw c.deref.ensures.value at c.in_ok-tree.ensures.ok) told)
    c.text_for.ensures.err
