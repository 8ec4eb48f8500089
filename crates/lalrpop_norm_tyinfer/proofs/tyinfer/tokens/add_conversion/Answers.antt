use Rattle.std.proofs.Common.{◌∙◌, ap}
use Rattle.lalrpop_norm_tyinfer_steps.specs.TokenTypes.{rows_seen}
use Rattle.lalrpop_norm_tyinfer.proofs.ChosenLemmas.{row_added, no_row_added}
use Rattle.lalrpop_norm_tyinfer.proofs.tyinfer.tokens.add_conversion.Goals as goal

pub returns-in_ok-push-in-Some : goal.returns-in_ok-push-in-Some
returns-in_ok-push-in-Some c =
    ap rows_seen c.in_ok-push-in-Some.ensures.items
    ∙ row_added c.args.rows.now.items c.args.conversion.now.from c.type_of_chosen.result _ _ c.type_of_chosen.ensures c.in_ok-chosen.ensures
    c.in_ok-terminal.terminal c.in-Some.ty c.in_ok-terminal.ensures.cases c.in-Some.is

pub returns-in-None : goal.returns-in-None
returns-in-None c = no_row_added c.args.rows.now.items c.args.conversion.now.from c.type_of_chosen.result _ _ c.type_of_chosen.ensures c.in_ok-chosen.ensures c.in-None.is
