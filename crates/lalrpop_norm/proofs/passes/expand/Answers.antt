use Rattle.std.proofs.lemmas.Result.{IfOk-weaker}
use Rattle.lalrpop_norm_tree.specs.Items as written
use Rattle.lalrpop_norm_common.specs.Sessions.{features_view}
use Rattle.lalrpop_norm.specs.PlainLaws.{PassesExpansion}
use Rattle.lalrpop_norm.proofs.PassLemmas.{where_none, names_exit, levels_answer, expansion_refuses, expansion_passes, expansion_plain}
use Rattle.lalrpop_norm.proofs.passes.expand.Goals as goal

pub returns-in_err-leveled-clause-refuses : goal.returns-in_err-leveled-clause-refuses
returns-in_err-leveled-clause-refuses g c =
    names_exit (features_view c.args.session.now.features) c.args.session.now.macro_recursion_limit (written.grammar_view c.args.grammar)
    (written.grammar_view c.in_ok-enabled.enabled) c.in_ok-validate.ensures c.in_ok-enabled.ensures
    c.from_residual-in_err-leveled.result _ c.in_err-leveled.ensures.expands c.from_residual-in_err-leveled.ensures.1

pub returns-clause-refuses : goal.returns-clause-refuses
returns-clause-refuses g c =
    let fs = features_view c.args.session.now.features in
    let tree = written.grammar_view c.args.grammar in
    let leveled = written.grammar_view c.in_ok-leveled.leveled in
    expansion_refuses fs c.args.session.now.macro_recursion_limit tree leveled c.expand_resolved.result c.in_ok-validate.ensures
    (levels_answer fs tree _ leveled c.in_ok-enabled.ensures c.in_ok-leveled.ensures.expands) c.expand_resolved.ensures.refuses

pub returns-clause-passes : goal.returns-clause-passes
returns-clause-passes g c =
    let fs = features_view c.args.session.now.features in
    let limit = c.args.session.now.macro_recursion_limit in
    let tree = written.grammar_view c.args.grammar in
    let leveled = written.grammar_view c.in_ok-leveled.leveled in
    where_none (PassesExpansion fs tree limit) c.expand_resolved.result _ c.expand_resolved.ensures.refuses
    (λ none. expansion_passes fs limit tree leveled c.in_ok-validate.ensures
    (levels_answer fs tree _ leveled c.in_ok-enabled.ensures c.in_ok-leveled.ensures.expands) none)

pub returns-clause-plain : goal.returns-clause-plain
returns-clause-plain g c =
    let fs = features_view c.args.session.now.features in
    let tree = written.grammar_view c.args.grammar in
    let leveled = written.grammar_view c.in_ok-leveled.leveled in
    IfOk-weaker c.expand_resolved.result _ _
    (λ p is. expansion_plain fs c.args.session.now.macro_recursion_limit tree leveled (written.grammar_view p)
    (levels_answer fs tree _ leveled c.in_ok-enabled.ensures c.in_ok-leveled.ensures.expands).1 is)
    c.expand_resolved.ensures.plain
