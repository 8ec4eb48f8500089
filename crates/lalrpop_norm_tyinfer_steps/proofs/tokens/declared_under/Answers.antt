use Rattle.lalrpop_norm_tree.specs.Items.{extern_token_view, grammar_view}
use Rattle.lalrpop_norm_tyinfer_steps.proofs.TokenLemmas.{declared_seen, none_declared}
use Rattle.lalrpop_norm_tyinfer_steps.proofs.tokens.declared_under.Goals as goal

pub returns-in-Some : goal.returns-in-Some
returns-in-Some c =
    declared_seen c.args.name.now (grammar_view c.args.grammar.now) (extern_token_view c.in-Some.token.now) c.declared_in.result c.in-Some.ensures c.declared_in.ensures

pub returns-in-None : goal.returns-in-None
returns-in-None c = none_declared c.args.name.now (grammar_view c.args.grammar.now) c.in-None.ensures
