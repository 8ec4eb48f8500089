use Rattle.lalrpop_norm_tree.specs.Items.{grammar_view, enum_token_view}
use Rattle.lalrpop_norm_token_check.specs.Uses.{uses_left}
use Rattle.lalrpop_norm_token_check.proofs.ExitLemmas.{exit_among_or}
use Rattle.lalrpop_norm_token_check.proofs.FindingSteps.{told_of_enum}
use Rattle.lalrpop_norm_token_check.proofs.token_check.tokens_of.Goals as goal

pub returns-in_err-check_enum-in-Some : goal.returns-in_err-check_enum-in-Some
returns-in_err-check_enum-in-Some g c =
    exit_among_or _ _ c.in_err-check_enum-in-Some.field-0.0 _ _ c.from_residual.ensures.1
    (told_of_enum (g.L.Lexer.relations c.args.lexer.now) (grammar_view c.args.grammar.now) (enum_token_view c.in-Some.tokens.now) (uses_left c.of.result)
    c.in-Some.ensures c.of.ensures c.in_err-check_enum-in-Some.field-0.0 c.in_err-check_enum-in-Some.ensures)
