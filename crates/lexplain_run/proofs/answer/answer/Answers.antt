use Rattle.std.proofs.Common.{rules, subst, sym}
use Rattle.std.proofs.lemmas.Result.{err_from_is_err_and}
use Rattle.lalrpop_norm_tree.specs.Items.{grammar_view}
use Rattle.lalrpop_norm_common.specs.Sessions.{features_view}
use Rattle.lalrpop_norm_explain.specs.Trees.{lowered_view, written_view}
use Rattle.lexplain_run.specs.Refusals.{AreNoLines}
use Rattle.lexplain_run.specs.Words.{settings_asked}
use Rattle.lexplain_run.proofs.AnswerLemmas.{ambiguous_answered, ambiguous_stopped, explain_answered, explain_stopped, lower_answered, lower_stopped, unread_over}
use Rattle.lexplain_run.proofs.answer.answer.Goals as goal

pub returns-in_err-grammar-clause-err : goal.returns-in_err-grammar-clause-err
returns-in_err-grammar-clause-err c =
    let p = err_from_is_err_and c.from_residual.result c.from_residual.ensures.1 in
    rw (p.1, p.2) (c.in_err-grammar.ensures.err c.args.asked.now.way (settings_asked c.args.asked.now) c.args.lines.now)

pub returns-in_err-tree-in-Explain-clause-err : goal.returns-in_err-tree-in-Explain-clause-err
returns-in_err-tree-in-Explain-clause-err c =
    let p = err_from_is_err_and c.from_residual-in_err-tree-in-Explain.result c.from_residual-in_err-tree-in-Explain.ensures.1 in
    rw (p.1, p.2) (unread_over c.args.asked.now.way (settings_asked c.args.asked.now) c.args.grammar.now c.args.lines.now
    (grammar_view c.in_ok-grammar.grammar) c.in_ok-grammar.ensures.ok _ (λ un. subst (λ w. AreNoLines w c.args.lines.now) (sym c.in-Explain.is) (c.lowered_tree_of_lines.ensures.not un))
    c.in_err-tree-in-Explain.field-0.0 c.in_err-tree-in-Explain.ensures.err)

pub returns-in_ok-tree-in-Explain-clause-ok : goal.returns-in_ok-tree-in-Explain-clause-ok
returns-in_ok-tree-in-Explain-clause-ok c =
    explain_answered c.args.asked.now.way c.args.grammar.now c.args.lines.now (grammar_view c.in_ok-grammar.grammar) c.in_ok-grammar.ensures.ok c.explained.result
    c.in-Explain.is (features_view c.args.asked.now.session.features) (lowered_view c.in_ok-tree-in-Explain.tree) (search rules) c.explained.ensures.ok

pub returns-in_ok-tree-in-Explain-clause-err : goal.returns-in_ok-tree-in-Explain-clause-err
returns-in_ok-tree-in-Explain-clause-err c =
    explain_stopped c.args.asked.now.way c.args.grammar.now c.args.lines.now (grammar_view c.in_ok-grammar.grammar) c.in_ok-grammar.ensures.ok c.explained.result
    c.in-Explain.is (settings_asked c.args.asked.now) (lowered_view c.in_ok-tree-in-Explain.tree) (search rules) c.explained.ensures.err

pub returns-in_err-tree-in-Lower-clause-err : goal.returns-in_err-tree-in-Lower-clause-err
returns-in_err-tree-in-Lower-clause-err c =
    let p = err_from_is_err_and c.from_residual-in_err-tree-in-Lower.result c.from_residual-in_err-tree-in-Lower.ensures.1 in
    rw (p.1, p.2) (unread_over c.args.asked.now.way (settings_asked c.args.asked.now) c.args.grammar.now c.args.lines.now
    (grammar_view c.in_ok-grammar.grammar) c.in_ok-grammar.ensures.ok _ (λ un. subst (λ w. AreNoLines w c.args.lines.now) (sym c.in-Lower.is) (c.written_tree_of_lines.ensures.not un))
    c.in_err-tree-in-Lower.field-0.0 c.in_err-tree-in-Lower.ensures.err)

pub returns-in_ok-tree-in-Lower-clause-ok : goal.returns-in_ok-tree-in-Lower-clause-ok
returns-in_ok-tree-in-Lower-clause-ok c =
    lower_answered c.args.asked.now.way c.args.grammar.now c.args.lines.now (grammar_view c.in_ok-grammar.grammar) c.in_ok-grammar.ensures.ok c.lowered.result
    c.in-Lower.is (features_view c.args.asked.now.session.features) (written_view c.in_ok-tree-in-Lower.tree) (search rules) c.lowered.ensures.ok

pub returns-in_ok-tree-in-Lower-clause-err : goal.returns-in_ok-tree-in-Lower-clause-err
returns-in_ok-tree-in-Lower-clause-err c =
    lower_stopped c.args.asked.now.way c.args.grammar.now c.args.lines.now (grammar_view c.in_ok-grammar.grammar) c.in_ok-grammar.ensures.ok c.lowered.result
    c.in-Lower.is (settings_asked c.args.asked.now) (written_view c.in_ok-tree-in-Lower.tree) (search rules) c.lowered.ensures.err

pub returns-in_err-trees-in-Ambiguous-clause-err : goal.returns-in_err-trees-in-Ambiguous-clause-err
returns-in_err-trees-in-Ambiguous-clause-err c =
    let p = err_from_is_err_and c.from_residual-in_err-trees-in-Ambiguous.result c.from_residual-in_err-trees-in-Ambiguous.ensures.1 in
    rw (p.1, p.2) (unread_over c.args.asked.now.way (settings_asked c.args.asked.now) c.args.grammar.now c.args.lines.now
    (grammar_view c.in_ok-grammar.grammar) c.in_ok-grammar.ensures.ok _ (λ un. subst (λ w. AreNoLines w c.args.lines.now) (sym c.in-Ambiguous.is) (c.two_lowered_trees_of_lines.ensures.not un))
    c.in_err-trees-in-Ambiguous.field-0.0 c.in_err-trees-in-Ambiguous.ensures.err)

pub returns-in_ok-trees-in-Ambiguous-clause-ok : goal.returns-in_ok-trees-in-Ambiguous-clause-ok
returns-in_ok-trees-in-Ambiguous-clause-ok c =
    ambiguous_answered c.args.asked.now.way c.args.grammar.now c.args.lines.now (grammar_view c.in_ok-grammar.grammar) c.in_ok-grammar.ensures.ok c.ambiguous.result
    c.in-Ambiguous.is (features_view c.args.asked.now.session.features) (lowered_view c.in_ok-trees-in-Ambiguous.trees.0) (lowered_view c.in_ok-trees-in-Ambiguous.trees.1) (search rules) c.ambiguous.ensures.ok

pub returns-in_ok-trees-in-Ambiguous-clause-err : goal.returns-in_ok-trees-in-Ambiguous-clause-err
returns-in_ok-trees-in-Ambiguous-clause-err c =
    ambiguous_stopped c.args.asked.now.way c.args.grammar.now c.args.lines.now (grammar_view c.in_ok-grammar.grammar) c.in_ok-grammar.ensures.ok c.ambiguous.result
    c.in-Ambiguous.is (settings_asked c.args.asked.now) (lowered_view c.in_ok-trees-in-Ambiguous.trees.0) (lowered_view c.in_ok-trees-in-Ambiguous.trees.1) (search rules) c.ambiguous.ensures.err
