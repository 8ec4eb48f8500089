-- The types that need no inference, in a type table.
use Rattle.std.specs.Prelude.{◌≡◌, List, map, codes}
use Rattle.lalrpop_norm_tree_parts.specs.declared.lowered.TypeRepr.{TypeRepr}
use Rattle.lalrpop_norm_tree_names.specs.declared.names.TerminalString.{TerminalString}
use Rattle.lalrpop_norm_tree.specs.Accessors.{or_else}
use Rattle.lalrpop_norm_tree.specs.Items.{GrammarData}
use Rattle.lalrpop_norm_tree_parts.specs.Reprs.{repr_view}
use Rattle.lalrpop_norm_repr.specs.Tables.{TypeTable, listed_type, found_terminal, new_table}
use Rattle.lalrpop_norm_model.specs.TerminalTypes.{TerminalRow, declared_location, declared_under, token_type, terminal_rows}
use Rattle.lalrpop_norm_model.specs.TerminalTypes.{row_of}

abbrev pub rows_seen : List (TerminalString × TypeRepr) → List TerminalRow
rows_seen rs = map (λ r. (r.0, repr_view r.1)) rs

-- a table that lists only the error terminal
abbrev pub base_table : GrammarData → TypeTable
base_table g = new_table g.prefix (declared_location g) (declared_under (codes "Error") g) (token_type g)

-- the new table is the old one with the rows added, each where its terminal had no type yet
pub record AddsTerminals (old new : TypeTable) (rows : List TerminalRow) : Type 0 where
  pub terminals : (t : TerminalString) → listed_type t new ≡ or_else (listed_type t old) (found_terminal t rows)
  pub rest : new ≡ record old { terminals = new.terminals }

-- terminals have their types, and so has all else that needs no inference
pub record HasTokens (g : GrammarData) (types : TypeTable) : Type 0 where
  pub terminals : (t : TerminalString) → listed_type t types ≡ row_of t (terminal_rows g)
  pub rest : types ≡ record (base_table g) { terminals = types.terminals; nonterminals = types.nonterminals }
