use Rattle.std.proofs.lemmas.Result.{IfOk-weaker}
use Rattle.lalrpop_norm_tree.specs.Items as written
use Rattle.lalrpop_norm_common.specs.Sessions.{features_view}
use Rattle.lalrpop_norm_shared_types.specs.Grammars.{shared_grammar_view}
use Rattle.lalrpop_norm.proofs.PassLemmas.{told_exit, is_expanded, is_typed, late_exit, lowered_so}
use Rattle.lalrpop_norm.proofs.passes.check_and_lower.Goals as goal

pub returns-in_err-checked-clause-refuses : goal.returns-in_err-checked-clause-refuses
returns-in_err-checked-clause-refuses g c = told_exit _ c.from_residual.result _ _ _ c.from_residual.ensures.1 c.in_err-checked.ensures.refuses

pub type_and_lower-requires-clause-expanded : goal.type_and_lower-requires-clause-expanded
type_and_lower-requires-clause-expanded g c =
    is_expanded _ (features_view c.args.session.now.features) (written.grammar_view c.args.plain) c.requires.plain (written.grammar_view c.in_ok-checked.checked)
    c.in_ok-checked.ensures.refuses c.in_ok-checked.ensures.checked

pub type_and_lower-requires-clause-typed : goal.type_and_lower-requires-clause-typed
type_and_lower-requires-clause-typed g c =
    is_typed _ (features_view c.args.session.now.features) (written.grammar_view c.args.plain) c.requires.plain (written.grammar_view c.in_ok-checked.checked)
    c.in_ok-checked.ensures.refuses c.in_ok-checked.ensures.checked

pub returns-clause-refuses : goal.returns-clause-refuses
returns-clause-refuses g c =
    late_exit _ (features_view c.args.session.now.features) (written.grammar_view c.args.plain) c.requires.plain (written.grammar_view c.in_ok-checked.checked)
    c.in_ok-checked.ensures.refuses c.in_ok-checked.ensures.checked c.type_and_lower.result c.type_and_lower.ensures.refuses

pub returns-clause-lowered : goal.returns-clause-lowered
returns-clause-lowered g c =
    IfOk-weaker c.type_and_lower.result _ _
    (λ l h. lowered_so _ (features_view c.args.session.now.features) (written.grammar_view c.args.plain) c.requires.plain (written.grammar_view c.in_ok-checked.checked)
    c.in_ok-checked.ensures.refuses c.in_ok-checked.ensures.checked (shared_grammar_view l) h)
    c.type_and_lower.ensures.lowered
