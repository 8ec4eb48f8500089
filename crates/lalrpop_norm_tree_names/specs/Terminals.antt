-- Which literals and terminals are the same, and their order.
use Rattle.std.specs.Prelude.{Bool, true, false, bytes_eq}
use Rattle.std.specs.Cmp.Lexicographic.{slice_cmp}
use Rattle.std.specs.declared.cmp.Ordering.{Ordering}
use Rattle.std.specs.declared.cmp.Ordering.TheVariants.{Less, Equal, Greater}
use Rattle.std.specs.Ordering.{nat_cmp}
use Rattle.lalrpop_norm_tree_names.specs.declared.names.TerminalLiteral.{TerminalLiteral}
use Rattle.lalrpop_norm_tree_names.specs.declared.names.TerminalLiteral.TheVariants.{Quoted, Regex}
use Rattle.lalrpop_norm_tree_names.specs.declared.names.TerminalString.{TerminalString}
use Rattle.lalrpop_norm_tree_names.specs.declared.names.TerminalString.TheVariants.{Literal, Bare, Error}

-- ---- sameness

abbrev pub same_literal : TerminalLiteral → TerminalLiteral → Bool
same_literal (Quoted a) (Quoted b) = bytes_eq a b
same_literal (Regex a) (Regex b) = bytes_eq a b
same_literal (Quoted a) (Regex b) = false
same_literal (Regex a) (Quoted b) = false

-- terminals are the same where they are of one kind and have one text
abbrev pub same_terminal : TerminalString → TerminalString → Bool
same_terminal (Literal l) (Literal m) = same_literal l m
same_terminal (Bare a) (Bare b) = bytes_eq a b
same_terminal Error Error = true
same_terminal _ _ = false

-- ---- order

-- literals: quoted ones first, then by text
abbrev pub literal_cmp : TerminalLiteral → TerminalLiteral → Ordering
literal_cmp (Quoted a) (Quoted b) = slice_cmp nat_cmp a b
literal_cmp (Quoted a) (Regex b) = Less
literal_cmp (Regex a) (Quoted b) = Greater
literal_cmp (Regex a) (Regex b) = slice_cmp nat_cmp a b

-- terminals: literals, then bare names, then the error terminal
abbrev pub terminal_cmp : TerminalString → TerminalString → Ordering
terminal_cmp (Literal a) (Literal b) = literal_cmp a b
terminal_cmp (Literal a) (Bare b) = Less
terminal_cmp (Literal a) Error = Less
terminal_cmp (Bare a) (Literal b) = Greater
terminal_cmp (Bare a) (Bare b) = slice_cmp nat_cmp a b
terminal_cmp (Bare a) Error = Less
terminal_cmp Error (Literal b) = Greater
terminal_cmp Error (Bare b) = Greater
terminal_cmp Error Error = Equal
