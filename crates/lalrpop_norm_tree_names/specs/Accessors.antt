-- What terminals are asked for.
use Rattle.std.specs.Prelude.{ℕ, ◌+◌, length, Option, Some, None}
use Rattle.lalrpop_norm_tree_names.specs.declared.names.TerminalLiteral.{TerminalLiteral}
use Rattle.lalrpop_norm_tree_names.specs.declared.names.TerminalLiteral.TheVariants.{Quoted, Regex}
use Rattle.lalrpop_norm_tree_names.specs.declared.names.TerminalString.{TerminalString}
use Rattle.lalrpop_norm_tree_names.specs.declared.names.TerminalString.TheVariants.{Literal, Bare, Error}

abbrev pub literal_of : TerminalString → Option TerminalLiteral
literal_of (Literal l) = Some l
literal_of (Bare a) = None
literal_of Error = None

-- quoted literals are above regular expressions
abbrev pub base_precedence : TerminalLiteral → ℕ
base_precedence (Quoted a) = 1
base_precedence (Regex a) = 0

abbrev pub literal_display_len : TerminalLiteral → ℕ
literal_display_len (Quoted a) = length a
literal_display_len (Regex a) = length a + 5

abbrev pub terminal_display_len : TerminalString → ℕ
terminal_display_len (Literal l) = literal_display_len l
terminal_display_len (Bare a) = length a
terminal_display_len Error = 5
