-- A copy of a terminal is the terminal.
use Rattle.std.proofs.Common.{◌≡◌, refl, ap}
use Rattle.lalrpop_norm_tree_names.specs.declared.names.TerminalLiteral.{TerminalLiteral}
use Rattle.lalrpop_norm_tree_names.specs.declared.names.TerminalLiteral.TheVariants as literal
use Rattle.lalrpop_norm_tree_names.specs.declared.names.TerminalString.{TerminalString}
use Rattle.lalrpop_norm_tree_names.specs.declared.names.TerminalString.TheVariants as terminal
use Rattle.lalrpop_norm_tree_names.specs.contracts.names.TerminalLiteralClone.TheImpl as literals
use Rattle.lalrpop_norm_tree_names.specs.contracts.names.TerminalStringClone.TheImpl as terminals

literal_copied : (a b : TerminalLiteral) → literals.is_clone-value.it a b → b ≡ a
literal_copied (literal.Quoted a) (literal.Quoted b) h = ap literal.Quoted h
literal_copied (literal.Regex a) (literal.Regex b) h = ap literal.Regex h
literal_copied _ _ h = absurd h

pub terminal_copied : (a b : TerminalString) → terminals.is_clone-value.it a b → b ≡ a
terminal_copied (terminal.Literal a) (terminal.Literal b) h = ap terminal.Literal (literal_copied a b h)
terminal_copied (terminal.Bare a) (terminal.Bare b) h = ap terminal.Bare h
terminal_copied terminal.Error terminal.Error h = refl
terminal_copied _ _ h = absurd h
