use Rattle.std.proofs.Common.{◌≡◌}
use Rattle.lalrpop_norm_tree_names.specs.declared.names.TerminalString.{TerminalString}
use Rattle.lalrpop_norm_tree.specs.Accessors.{or_else}
use Rattle.lalrpop_norm_repr.specs.Tables.{type_table, listed_type, found_terminal}
use Rattle.lalrpop_norm_tyinfer_steps.specs.TokenTypes.{rows_seen}
use Rattle.lalrpop_norm_tyinfer_steps.proofs.tokens.add_rows.Given as goal

abbrev pub invariant-loop-row : goal.invariant-loop-row
invariant-loop-row l =
    ((t : TerminalString) → or_else (listed_type t (type_table l.types)) (found_terminal t (rows_seen l.row-iterator.rest.items))
    ≡ or_else (listed_type t (type_table l.initial.types)) (found_terminal t (rows_seen l.fn.rows.items)))
    × (type_table l.types ≡ record (type_table l.initial.types) { terminals = (type_table l.types).terminals })
