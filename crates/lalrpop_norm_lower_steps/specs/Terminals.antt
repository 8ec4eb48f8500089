-- The terminals of entries; terminals with their numbers, in the order of terminals.
use Rattle.std.specs.Prelude.{ℕ, ◌+◌, List, [], ◌∷◌, Option, Some, None}
use Rattle.std.specs.BTreeMap.{insert_entry}
use Rattle.lalrpop_norm_tree_names.specs.declared.names.TerminalString.{TerminalString}
use Rattle.lalrpop_norm_tree.specs.declared.items.MatchMapping.{MatchMapping}
use Rattle.lalrpop_norm_tree.specs.declared.items.MatchMapping.TheVariants as mapping
pub use Rattle.lalrpop_norm_repr.specs.Orders.{terminal_cmp}

-- the terminal that an entry has a number for: a skip has none
abbrev pub terminal_of_mapping : MatchMapping → Option TerminalString
terminal_of_mapping (mapping.Terminal t) = Some t
terminal_of_mapping mapping.Skip = None

-- the rows in the order of their terminals, a later one replaces an earlier one of its terminal
abbrev pub sorted_terminals : {V : Type 0} → List (TerminalString × V) → List (TerminalString × V) →
    List (TerminalString × V)
sorted_terminals rows [] = rows
sorted_terminals rows (r ∷ rs) = sorted_terminals (insert_entry terminal_cmp rows r.0 r.1) rs

-- the terminals with their numbers, from k on
abbrev pub numbered_terminals : ℕ → List TerminalString → List (TerminalString × ℕ)
numbered_terminals k [] = []
numbered_terminals k (t ∷ ts) = (t, k) ∷ numbered_terminals (k + 1) ts
