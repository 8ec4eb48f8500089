-- The order of terminals, and that it ties just those that are the same.
use Rattle.std.proofs.Common.{◌≡◌, refl}
use Rattle.std.proofs.Math.Path.{fun_ext}
use Rattle.std.specs.Ordering.{is_eq}
use Rattle.std.proofs.lemmas.Map.Text.{is_eq-slice_cmp}
use Rattle.lalrpop_norm_tree_names.specs.declared.names.TerminalLiteral.TheVariants.{Quoted, Regex}
use Rattle.lalrpop_norm_tree_names.specs.declared.names.TerminalString.{TerminalString}
use Rattle.lalrpop_norm_tree_names.specs.declared.names.TerminalString.TheVariants as terminal
use Rattle.lalrpop_norm_tree_names.specs.contracts.names.TerminalStringOrd.TheImpl.{cmp-value}
use Rattle.lalrpop_norm_repr.specs.Orders.{terminal_cmp}
use Rattle.lalrpop_norm_repr.specs.Tables.{same_terminal}

pub terminal_ties : (a b : TerminalString) → is_eq (cmp-value.it a b) ≡ same_terminal a b
terminal_ties (terminal.Literal (Quoted a)) (terminal.Literal (Quoted b)) = is_eq-slice_cmp a b
terminal_ties (terminal.Literal (Regex a)) (terminal.Literal (Regex b)) = is_eq-slice_cmp a b
terminal_ties (terminal.Literal (Quoted a)) (terminal.Literal (Regex b)) = refl
terminal_ties (terminal.Literal (Regex a)) (terminal.Literal (Quoted b)) = refl
terminal_ties (terminal.Bare a) (terminal.Bare b) = is_eq-slice_cmp a b
terminal_ties terminal.Error terminal.Error = refl
terminal_ties (terminal.Literal a) (terminal.Bare b) = refl
terminal_ties (terminal.Literal a) terminal.Error = refl
terminal_ties (terminal.Bare a) (terminal.Literal b) = refl
terminal_ties (terminal.Bare a) terminal.Error = refl
terminal_ties terminal.Error (terminal.Literal b) = refl
terminal_ties terminal.Error (terminal.Bare b) = refl

ordered_so : (a b : TerminalString) → cmp-value.it a b ≡ terminal_cmp a b
ordered_so (terminal.Literal (Quoted a)) (terminal.Literal (Quoted b)) = refl
ordered_so (terminal.Literal (Regex a)) (terminal.Literal (Regex b)) = refl
ordered_so (terminal.Literal (Quoted a)) (terminal.Literal (Regex b)) = refl
ordered_so (terminal.Literal (Regex a)) (terminal.Literal (Quoted b)) = refl
ordered_so (terminal.Bare a) (terminal.Bare b) = refl
ordered_so terminal.Error terminal.Error = refl
ordered_so (terminal.Literal (Quoted a)) (terminal.Bare b) = refl
ordered_so (terminal.Literal (Regex a)) (terminal.Bare b) = refl
ordered_so (terminal.Literal (Quoted a)) terminal.Error = refl
ordered_so (terminal.Literal (Regex a)) terminal.Error = refl
ordered_so (terminal.Bare a) (terminal.Literal (Quoted b)) = refl
ordered_so (terminal.Bare a) (terminal.Literal (Regex b)) = refl
ordered_so (terminal.Bare a) terminal.Error = refl
ordered_so terminal.Error (terminal.Literal (Quoted b)) = refl
ordered_so terminal.Error (terminal.Literal (Regex b)) = refl
ordered_so terminal.Error (terminal.Bare b) = refl

pub terminal_order : cmp-value.it ≡ terminal_cmp
terminal_order = fun_ext (λ a. fun_ext (λ b. ordered_so a b))
