use Rattle.std.proofs.Common.{sym, ◌∙◌}
use Rattle.lalrpop_norm_tree.specs.Items.{grammar_view}
use Rattle.lalrpop_norm_token_check.specs.Found.{found_view}
use Rattle.lalrpop_norm_token_check.specs.Uses.{uses_left}
use Rattle.lalrpop_norm_token_check.proofs.ExitLemmas.{exit_among_or}
use Rattle.lalrpop_norm_token_check.proofs.FindingSteps.{told_of_entries, told_of_lexer, told_of_input, nothing_sure}
use Rattle.lalrpop_norm_token_check.proofs.WholeLemmas.{faults_are, read_placed, read_all}
use Rattle.lalrpop_norm_token_check.proofs.token_check.internal_tokens.Goals as goal

pub returns-in_err-found : goal.returns-in_err-found
returns-in_err-found g c =
    let grammar = grammar_view c.args.grammar.now in
    let same = faults_are grammar _ (uses_left c.of.result) c.match_token.ensures c.of.ensures in
    exit_among_or _ _ c.in_err-found.field-0.0 _ _ c.from_residual.ensures.1
    (told_of_entries (g.L.Lexer.relations c.args.lexer.now) grammar _ c.in_err-found.field-0.0 same c.in_err-found.ensures)

pub tokens_with-requires : goal.tokens_with-requires
tokens_with-requires g c =
    read_placed (grammar_view c.args.grammar.now) _ (uses_left c.of.result) c.match_token.ensures c.of.ensures (found_view c.in_ok-found.found) c.in_ok-found.ensures.1

pub returns-in_err-tokens : goal.returns-in_err-tokens
returns-in_err-tokens g c =
    let grammar = grammar_view c.args.grammar.now in
    let none = sym (faults_are grammar _ (uses_left c.of.result) c.match_token.ensures c.of.ensures) ∙ c.in_ok-found.ensures.0 in
    let whole = read_all grammar _ (uses_left c.of.result) c.match_token.ensures c.of.ensures (found_view c.in_ok-found.found) c.in_ok-found.ensures.1 none in
    exit_among_or _ _ c.in_err-tokens.field-0.0 _ _ c.from_residual-in_err-tokens.ensures.1
    (told_of_lexer (g.L.Lexer.relations c.args.lexer.now) grammar c.in_err-tokens.field-0.0 none (c.in_err-tokens.ensures grammar whole))

pub returns-in_err-check_input : goal.returns-in_err-check_input
returns-in_err-check_input g c =
    let grammar = grammar_view c.args.grammar.now in
    let none = sym (faults_are grammar _ (uses_left c.of.result) c.match_token.ensures c.of.ensures) ∙ c.in_ok-found.ensures.0 in
    exit_among_or _ _ c.in_err-check_input.field-0.0 _ _ c.from_residual-in_err-check_input.ensures.1
    (told_of_input (g.L.Lexer.relations c.args.lexer.now) grammar c.in_err-check_input.field-0.0 none c.in_err-check_input.ensures)

pub returns : goal.returns
returns g c =
    let grammar = grammar_view c.args.grammar.now in
    let none = sym (faults_are grammar _ (uses_left c.of.result) c.match_token.ensures c.of.ensures) ∙ c.in_ok-found.ensures.0 in
    let whole = read_all grammar _ (uses_left c.of.result) c.match_token.ensures c.of.ensures (found_view c.in_ok-found.found) c.in_ok-found.ensures.1 none in
    (nothing_sure (g.L.Lexer.relations c.args.lexer.now) grammar none c.in_ok-check_input.ensures, c.in_ok-tokens.ensures grammar whole)
