-- A grammar with its entries, where no automaton is asked for: what types and lowering are read from.
use Rattle.std.specs.Prelude.{ℕ, List, [], ◌∷◌, ◌++◌, flat_map, Option, Some, None, if◌then◌else◌}
use Rattle.std.specs.BTreeSet.{insert_key}
use Rattle.std.specs.List.{list_any}
use Rattle.lalrpop_norm_tree_names.specs.declared.names.TerminalString.{TerminalString}
use Rattle.lalrpop_norm_tree_names.specs.declared.names.TerminalString.TheVariants.{Literal, Bare, Error}
use Rattle.lalrpop_norm_tree.specs.declared.items.MatchEntry.{MatchEntry}
use Rattle.lalrpop_norm_tree.specs.Items.{EnumTokenData, InternTokenData, GrammarData}
use Rattle.lalrpop_norm_model.specs.Terminals.{same_terminal, terminals_used}
use Rattle.lalrpop_norm_model.specs.Entries.{entry_in, own_mapping, catch_all, user_names, match_entries, entry_cmp}
use Rattle.lalrpop_norm_model.specs.TerminalTypes.{extern_enum}
use Rattle.lalrpop_norm_model.specs.CheckedTokens.{with_tokens}

-- ---- the entries

-- a literal that is used, is none of these names and is let in with that precedence: the entry that maps it to itself
abbrev pub added_for : List TerminalString → Option ℕ → TerminalString → List MatchEntry
added_for names (Some precedence) (Literal l) =
    if list_any (same_terminal (Literal l)) names then [] else entry_in precedence l (own_mapping l) ∷ []
added_for names None (Literal l) = []
added_for names precedence (Bare a) = []
added_for names precedence Error = []

-- the entries that the literals used have beside those of the match block, once for each use
abbrev pub added_entries : GrammarData → List MatchEntry
added_entries g = flat_map (added_for (user_names (match_entries g)) (catch_all g)) (terminals_used g)

-- entries in their order, each once
abbrev pub sorted_entries : List MatchEntry → List MatchEntry
sorted_entries [] = []
sorted_entries (e ∷ es) = insert_key entry_cmp (sorted_entries es) e

-- the entries of a grammar
abbrev pub all_entries : GrammarData → List MatchEntry
all_entries g = sorted_entries (match_entries g ++ added_entries g)

-- ---- the grammar with them

-- internal tokens with the entries of a grammar, and no automaton
abbrev pub tokens_without_automaton : GrammarData → InternTokenData
tokens_without_automaton g = record { match_entries = all_entries g; code = [] }

abbrev pub entered_with : Option EnumTokenData → GrammarData → GrammarData
entered_with (Some e) g = g
entered_with None g = with_tokens (tokens_without_automaton g) g

-- the grammar with its entries: as it is beside an extern enum, else with internal tokens
abbrev pub entered_grammar : GrammarData → GrammarData
entered_grammar g = entered_with (extern_enum g) g
