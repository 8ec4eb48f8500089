use Rattle.std.proofs.Common.{sym, ◌∙◌}
use Rattle.lalrpop_norm_token_check.specs.Found.{found_view}
use Rattle.lalrpop_norm_token_check.proofs.OrderLemmas.{terminal_contained}
use Rattle.lalrpop_norm_token_check.proofs.UseLemmas.{known_stays, put_terminal}
use Rattle.lalrpop_norm_token_check.proofs.token_check.entries.add_use.Goals as goal

pub returns-then-contains-clause-adds : goal.returns-then-contains-clause-adds
returns-then-contains-clause-adds c =
    known_stays c.args.catch_all (found_view c.args.found.now) c.args.terminal.now c.args.span
    (terminal_contained c.args.found.now.names.keys c.args.terminal.now ∙ (sym c.contains.ensures ∙ c.if-contains.true))

pub returns-in_ok-put_literal-in-Some-clause-adds : goal.returns-in_ok-put_literal-in-Some-clause-adds
returns-in_ok-put_literal-in-Some-clause-adds c =
    put_terminal c.args.catch_all (found_view c.args.found.now) _ c.args.terminal.now c.in-Literal.literal c.args.span c.in-Some.precedence c.in-Some.is c.in-Literal.is
    (terminal_contained c.args.found.now.names.keys c.args.terminal.now ∙ (sym c.contains.ensures ∙ c.if-contains.false)) c.in_ok-put_literal-in-Some.ensures
