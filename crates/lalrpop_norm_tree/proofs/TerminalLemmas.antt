-- Terminals that a test counts as the same are equal.
use Rattle.std.proofs.Common.{◌≡◌, true, refl, ap}
use Rattle.std.proofs.lemmas.Slice.Eq.{bytes_eq-Decides}
use Rattle.lalrpop_norm_tree_names.specs.declared.names.TerminalLiteral.{TerminalLiteral}
use Rattle.lalrpop_norm_tree_names.specs.declared.names.TerminalLiteral.TheVariants.{Quoted, Regex}
use Rattle.lalrpop_norm_tree_names.specs.declared.names.TerminalString.{TerminalString}
use Rattle.lalrpop_norm_tree_names.specs.declared.names.TerminalString.TheVariants.{Literal, Bare, Error}
use Rattle.lalrpop_norm_tree_names.specs.Terminals.{same_literal, same_terminal}

pub literals_same : (a b : TerminalLiteral) → same_literal a b ≡ true → a ≡ b
literals_same (Quoted a) (Quoted b) h = ap Quoted ((bytes_eq-Decides a b).0 h)
literals_same (Quoted a) (Regex b) h = absurd (cc h)
literals_same (Regex a) (Quoted b) h = absurd (cc h)
literals_same (Regex a) (Regex b) h = ap Regex ((bytes_eq-Decides a b).0 h)

pub terminals_same : (a b : TerminalString) → same_terminal a b ≡ true → a ≡ b
terminals_same (Literal a) (Literal b) h = ap Literal (literals_same a b h)
terminals_same (Literal a) (Bare b) h = absurd (cc h)
terminals_same (Literal a) Error h = absurd (cc h)
terminals_same (Bare a) (Literal b) h = absurd (cc h)
terminals_same (Bare a) (Bare b) h = ap Bare ((bytes_eq-Decides a b).0 h)
terminals_same (Bare a) Error h = absurd (cc h)
terminals_same Error (Literal b) h = absurd (cc h)
terminals_same Error (Bare b) h = absurd (cc h)
terminals_same Error Error h = refl
