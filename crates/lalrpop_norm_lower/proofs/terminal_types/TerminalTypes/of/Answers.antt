use Rattle.std.proofs.Common.{List, ◌∙◌, ap, unwrap_or}
use Rattle.lalrpop_norm_tree_names.specs.declared.names.TerminalString.{TerminalString}
use Rattle.lalrpop_norm_tree_parts.specs.Reprs.{ReprData}
use Rattle.lalrpop_norm_repr.specs.Tables.{found_terminal, type_table}
use Rattle.lalrpop_norm_shared_types.specs.Shared.{shared_view}
use Rattle.lalrpop_norm_lower.proofs.terminal_types.TerminalTypes.of.Goals as goal

pub returns : goal.returns
returns c =
    λ terminal.
    ap (λ (rs : List (TerminalString × ReprData)). unwrap_or (found_terminal terminal rs) (shared_view c.in_ok-token.token)) (c.in_ok-listed.ensures ∙ c.terminals.ensures)
    ∙ ap (unwrap_or (found_terminal terminal (type_table c.args.types.now).terminals)) (c.in_ok-token.ensures ∙ c.terminal_token_type.ensures)
