use Rattle.std.proofs.Common.{ap, ◌∙◌, [], map}
use Rattle.std.specs.Prelude.{flat_map}
use Rattle.lalrpop_norm_tree.specs.Items as written
use Rattle.lalrpop_norm_tree.specs.Items.{item_view}
use Rattle.lalrpop_norm_common.specs.Sessions.{features_view}
use Rattle.lalrpop_norm_origins.specs.Origins.{origin_lists}
use Rattle.lalrpop_norm.specs.Roots.{plain_names, with_rule_names}
use Rattle.lalrpop_norm.proofs.PassLemmas.{names_exit, levels_answer, expansion_passes, expansion_plain}
use Rattle.lalrpop_norm.proofs.TracedLemmas.{expansion_exit, expansion_none, lists_plain}
use Rattle.lalrpop_norm.proofs.passes.expand_traced.Goals as goal

pub returns-in_err-leveled-clause-refuses : goal.returns-in_err-leveled-clause-refuses
returns-in_err-leveled-clause-refuses g c =
    names_exit (features_view c.args.session.now.features) c.args.session.now.macro_recursion_limit (written.grammar_view c.args.tree)
    (written.grammar_view c.in_ok-enabled.enabled) c.in_ok-validate.ensures c.in_ok-enabled.ensures.grammar.1
    c.from_residual-in_err-leveled.result _ c.in_err-leveled.ensures.expands c.from_residual-in_err-leveled.ensures.1

pub returns-in_err-grammar-clause-refuses : goal.returns-in_err-grammar-clause-refuses
returns-in_err-grammar-clause-refuses g c =
    let fs = features_view c.args.session.now.features in
    let tree = written.grammar_view c.args.tree in
    let leveled = written.grammar_view c.in_ok-leveled.leveled in
    expansion_exit fs c.args.session.now.macro_recursion_limit tree leveled c.in_ok-validate.ensures
    (levels_answer fs tree _ leveled c.in_ok-enabled.ensures.grammar.1 c.in_ok-leveled.ensures.expands)
    c.from_residual-in_err-grammar.result _ c.in_err-grammar.ensures.refuses c.from_residual-in_err-grammar.ensures.1

pub returns-clause-refuses : goal.returns-clause-refuses
returns-clause-refuses g c =
    let fs = features_view c.args.session.now.features in
    let tree = written.grammar_view c.args.tree in
    let leveled = written.grammar_view c.in_ok-leveled.leveled in
    expansion_none fs c.args.session.now.macro_recursion_limit tree leveled c.in_ok-validate.ensures
    (levels_answer fs tree _ leveled c.in_ok-enabled.ensures.grammar.1 c.in_ok-leveled.ensures.expands) c.in_ok-grammar.ensures.refuses

pub returns-clause-passes : goal.returns-clause-passes
returns-clause-passes g c =
    let fs = features_view c.args.session.now.features in
    let tree = written.grammar_view c.args.tree in
    let leveled = written.grammar_view c.in_ok-leveled.leveled in
    expansion_passes fs c.args.session.now.macro_recursion_limit tree leveled c.in_ok-validate.ensures
    (levels_answer fs tree _ leveled c.in_ok-enabled.ensures.grammar.1 c.in_ok-leveled.ensures.expands) c.in_ok-grammar.ensures.refuses

pub returns-clause-plain : goal.returns-clause-plain
returns-clause-plain g c =
    let fs = features_view c.args.session.now.features in
    let tree = written.grammar_view c.args.tree in
    let leveled = written.grammar_view c.in_ok-leveled.leveled in
    expansion_plain fs c.args.session.now.macro_recursion_limit tree leveled (written.grammar_view c.in_ok-grammar.grammar)
    (levels_answer fs tree _ leveled c.in_ok-enabled.ensures.grammar.1 c.in_ok-leveled.ensures.expands).1 c.in_ok-grammar.ensures.plain

pub returns-clause-origins : goal.returns-clause-origins
returns-clause-origins g c =
    let fs = features_view c.args.session.now.features in
    let tree = written.grammar_view c.args.tree in
    let enabled = written.grammar_view c.in_ok-enabled.enabled in
    let leveled = written.grammar_view c.in_ok-leveled.leveled in
    lists_plain fs tree c.args.session.now.macro_recursion_limit enabled leveled
    (origin_lists c.in_ok-enabled.kept.items) (origin_lists c.in_ok-leveled.levels.items) (origin_lists c.in_ok-grammar.origins.items)
    c.in_ok-enabled.ensures.grammar.1 c.in_ok-enabled.ensures.origins c.in_ok-leveled.ensures.origins
    (levels_answer fs tree _ leveled c.in_ok-enabled.ensures.grammar.1 c.in_ok-leveled.ensures.expands).1 c.in_ok-grammar.ensures.origins

pub returns-clause-rules : goal.returns-clause-rules
returns-clause-rules g c =
    c.in_ok-rules.ensures
    ∙ ap (λ is. with_rule_names [] (flat_map plain_names (map item_view is))) c.deref.ensures.value
    ∙ ap (λ (x : written.GrammarData). with_rule_names [] (flat_map plain_names x.items)) c.in_ok-enabled.ensures.grammar.1
