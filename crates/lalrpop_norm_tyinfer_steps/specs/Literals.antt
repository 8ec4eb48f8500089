-- The literals among the terminals that alternatives use.
use Rattle.std.specs.Prelude.{List, [], ◌∷◌}
use Rattle.lalrpop_norm_tree_names.specs.declared.names.TerminalString.{TerminalString}
use Rattle.lalrpop_norm_tree_names.specs.declared.names.TerminalString.TheVariants.{Literal, Bare, Error}

-- the terminal, if it is a literal
abbrev pub used_literal : TerminalString → List TerminalString
used_literal (Literal l) = Literal l ∷ []
used_literal (Bare a) = []
used_literal Error = []
