use Rattle.std.proofs.Common.{ap, ◌∙◌}
use Rattle.std.specs.Prelude.{option_map}
use Rattle.lalrpop_norm_theory.specs.LoweredTrees.{from_group, star_empty, plus_one, question_some, from_times, from_lookahead, from_lookbehind}
use Rattle.lalrpop_norm_origins.specs.Origins.{origin_view}
use Rattle.lalrpop_norm_explain.specs.Forms.{form_view}
use Rattle.lalrpop_norm_explain.specs.TracedGrammars.{grammar_of, pair_view}
use Rattle.lalrpop_norm_explain.proofs.Origins.{form_seen, star_seen, no_form, no_first, first_there}
use Rattle.lalrpop_norm_explain.proofs.forms.form_named.Goals as goal

pub returns-in-Group : goal.returns-in-Group
returns-in-Group c =
    form_seen (grammar_of c.args.traced.now c.args.name.now.0) (pair_view (c.in_ok-symbols.symbols, c.in_ok-symbols.origin)) from_group c.in_ok-symbols.ensures (ap origin_view c.in-Group.is)

pub returns-in-Times : goal.returns-in-Times
returns-in-Times c =
    form_seen (grammar_of c.args.traced.now c.args.name.now.0) (pair_view (c.in_ok-symbols.symbols, c.in_ok-symbols.origin)) from_times c.in_ok-symbols.ensures (ap origin_view c.in-Times.is)

pub returns-in-Lookahead : goal.returns-in-Lookahead
returns-in-Lookahead c =
    form_seen (grammar_of c.args.traced.now c.args.name.now.0) (pair_view (c.in_ok-symbols.symbols, c.in_ok-symbols.origin)) from_lookahead c.in_ok-symbols.ensures (ap origin_view c.in-Lookahead.is)

pub returns-in-Lookbehind : goal.returns-in-Lookbehind
returns-in-Lookbehind c =
    form_seen (grammar_of c.args.traced.now c.args.name.now.0) (pair_view (c.in_ok-symbols.symbols, c.in_ok-symbols.origin)) from_lookbehind c.in_ok-symbols.ensures (ap origin_view c.in-Lookbehind.is)

pub returns-in-StarEmpty : goal.returns-in-StarEmpty
returns-in-StarEmpty c =
    let qs = grammar_of c.args.traced.now c.args.name.now.0 in
    c.star_over.ensures ∙ star_seen qs ∙ form_seen qs (pair_view (c.in_ok-symbols.symbols, c.in_ok-symbols.origin)) star_empty c.in_ok-symbols.ensures (ap origin_view c.in-StarEmpty.is)

pub returns-in_err-symbols : goal.returns-in_err-symbols
returns-in_err-symbols c = ap (option_map form_view) c.from_residual.ensures ∙ no_form (grammar_of c.args.traced.now c.args.name.now.0) c.in_err-symbols.ensures

pub returns-in_err-first-in-PlusOne : goal.returns-in_err-first-in-PlusOne
returns-in_err-first-in-PlusOne c =
    ap (option_map form_view) c.from_residual-in_err-first-in-PlusOne.ensures ∙ (no_first c.in_ok-symbols.symbols.now c.in_err-first-in-PlusOne.ensures.value).0
    ∙ form_seen (grammar_of c.args.traced.now c.args.name.now.0) (pair_view (c.in_ok-symbols.symbols, c.in_ok-symbols.origin)) plus_one c.in_ok-symbols.ensures (ap origin_view c.in-PlusOne.is)

pub returns-in_ok-first-in-PlusOne : goal.returns-in_ok-first-in-PlusOne
returns-in_ok-first-in-PlusOne c =
    (first_there c.in_ok-symbols.symbols.now c.in_ok-first-in-PlusOne.field-0.now c.in_ok-first-in-PlusOne.ensures.value).0
    ∙ form_seen (grammar_of c.args.traced.now c.args.name.now.0) (pair_view (c.in_ok-symbols.symbols, c.in_ok-symbols.origin)) plus_one c.in_ok-symbols.ensures (ap origin_view c.in-PlusOne.is)

pub returns-in_err-first-in-QuestionSome : goal.returns-in_err-first-in-QuestionSome
returns-in_err-first-in-QuestionSome c =
    ap (option_map form_view) c.from_residual-in_err-first-in-QuestionSome.ensures ∙ (no_first c.in_ok-symbols.symbols.now c.in_err-first-in-QuestionSome.ensures.value).1
    ∙ form_seen (grammar_of c.args.traced.now c.args.name.now.0) (pair_view (c.in_ok-symbols.symbols, c.in_ok-symbols.origin)) question_some c.in_ok-symbols.ensures (ap origin_view c.in-QuestionSome.is)

pub returns-in_ok-first-in-QuestionSome : goal.returns-in_ok-first-in-QuestionSome
returns-in_ok-first-in-QuestionSome c =
    (first_there c.in_ok-symbols.symbols.now c.in_ok-first-in-QuestionSome.field-0.now c.in_ok-first-in-QuestionSome.ensures.value).1
    ∙ form_seen (grammar_of c.args.traced.now c.args.name.now.0) (pair_view (c.in_ok-symbols.symbols, c.in_ok-symbols.origin)) question_some c.in_ok-symbols.ensures (ap origin_view c.in-QuestionSome.is)
