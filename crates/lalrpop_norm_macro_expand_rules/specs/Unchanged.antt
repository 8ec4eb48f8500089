-- Symbols that are read without a change.
use Rattle.std.specs.Prelude.{Bool, true, false, not, is_some}
use Rattle.lalrpop_norm_tree.specs.Symbols.{Kind, terminal, nonterminal, error_terminal, Part, at}
use Rattle.lalrpop_norm_tree.specs.Traversal.{unwrapped}
use Rattle.lalrpop_norm_nodes.specs.declared.given.Environment.{Environment}
use Rattle.lalrpop_norm_nodes.specs.Given.{given_in}

-- a terminal, `!`, and a nonterminal that is no argument's name
abbrev pub is_unchanged_kind : Environment → Kind → Bool
is_unchanged_kind e (terminal t) = true
is_unchanged_kind e (nonterminal n) = not (is_some (given_in e n))
is_unchanged_kind e error_terminal = true
is_unchanged_kind e _ = false

abbrev pub is_unchanged_there : Environment → Part → Bool
is_unchanged_there e (at s k) = is_unchanged_kind e k

-- under wrappers too
abbrev pub is_unchanged : Environment → Part → Bool
is_unchanged e p = is_unchanged_there e (unwrapped p)
