-- The types of terminals, each made once.
use Rattle.std.specs.Prelude.{◌≡◌, unwrap_or}
use Rattle.lalrpop_norm_tree_names.specs.declared.names.TerminalString.{TerminalString}
use Rattle.lalrpop_norm_tree_parts.specs.Reprs.{ReprData}
use Rattle.lalrpop_norm_repr.specs.Tables.{TypeTable, found_terminal, rows, type_of_terminal}
use Rattle.lalrpop_norm_shared_types.specs.Shared.{shared_view}
use Rattle.lalrpop_norm_lower.specs.declared.terminal_types.TerminalTypes.{TerminalTypes}

-- the type that is listed for the terminal, and that of a token if none is
abbrev pub type_at_terminal : TerminalTypes → TerminalString → ReprData
type_at_terminal types terminal = unwrap_or (found_terminal terminal (rows shared_view types.listed)) (shared_view types.token)

-- each terminal has its type by the table
abbrev pub AreTypesOfTerminals : TypeTable → TerminalTypes → Type 0
AreTypesOfTerminals table types = (terminal : TerminalString) → type_at_terminal types terminal ≡ type_of_terminal terminal table
