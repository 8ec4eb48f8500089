-- Which terminals a grammar has, and that it names none of them twice, as tests of what names them.
use Rattle.std.specs.Prelude.{Bool, true, false, ◌&&◌, not, List, [], ◌∷◌, Option, Some, None, map}
use Rattle.std.specs.List.{list_any}
use Rattle.lalrpop_norm_tree_names.specs.declared.names.TerminalString.{TerminalString}
use Rattle.lalrpop_norm_tree.specs.declared.items.MatchEntry.{MatchEntry}
use Rattle.lalrpop_norm_tree.specs.declared.items.MatchMapping.{MatchMapping}
use Rattle.lalrpop_norm_tree.specs.declared.items.MatchMapping.TheVariants.{Terminal, Skip}
use Rattle.lalrpop_norm_tree.specs.Items.{ConversionData, EnumTokenData, GrammarData, conversion_view}
use Rattle.lalrpop_norm_model.specs.Features.{Features, is_active}
use Rattle.lalrpop_norm_model.specs.Terminals.{same_terminal}
use Rattle.lalrpop_norm_model.specs.TerminalTypes.{extern_enum, intern_entries}
use Rattle.lalrpop_norm_is_typed.specs.declared.terminals.Source.{Source}
use Rattle.lalrpop_norm_is_typed.specs.declared.terminals.Source.TheVariants.{Conversions, Entries}

-- ---- conversions, of which the active ones count

abbrev pub is_conversion_of : Features → TerminalString → ConversionData → Bool
is_conversion_of fs t c = is_active fs c.attributes && same_terminal t c.from

abbrev pub is_converted : Features → List ConversionData → TerminalString → Bool
is_converted fs cs t = list_any (is_conversion_of fs t) cs

-- one of the others names the same terminal
abbrev pub is_converted_again : Features → ConversionData → List ConversionData → Bool
is_converted_again fs c others = is_active fs c.attributes && is_converted fs others c.from

abbrev pub are_conversions_distinct : Features → List ConversionData → Bool
are_conversions_distinct fs [] = true
are_conversions_distinct fs (c ∷ cs) = not (is_converted_again fs c cs) && are_conversions_distinct fs cs

-- ---- entries, of which those without a terminal are passed over

abbrev pub is_mapping_to : TerminalString → MatchMapping → Bool
is_mapping_to t (Terminal u) = same_terminal t u
is_mapping_to t Skip = false

abbrev pub is_entry_of : TerminalString → MatchEntry → Bool
is_entry_of t e = is_mapping_to t e.user_name

abbrev pub is_entered : List MatchEntry → TerminalString → Bool
is_entered es t = list_any (is_entry_of t) es

abbrev pub is_entered_again : MatchMapping → List MatchEntry → Bool
is_entered_again (Terminal t) others = is_entered others t
is_entered_again Skip others = false

abbrev pub are_entries_distinct : List MatchEntry → Bool
are_entries_distinct [] = true
are_entries_distinct (e ∷ es) = not (is_entered_again e.user_name es) && are_entries_distinct es

-- ---- what names the terminals of a grammar

pub data SourceData : Type 0 where
  conversions : List ConversionData → SourceData
  entries : List MatchEntry → SourceData

abbrev pub source_view : Source → SourceData
source_view (Conversions cs) = conversions (map conversion_view cs.now)
source_view (Entries es) = entries es.now

abbrev pub source_with : Option EnumTokenData → GrammarData → SourceData
source_with (Some e) g = conversions e.conversions
source_with None g = entries (intern_entries g)

-- the extern enum; the entries of the tokenizer where there is none
abbrev pub source_of : GrammarData → SourceData
source_of g = source_with (extern_enum g) g

abbrev pub is_terminal : Features → SourceData → TerminalString → Bool
is_terminal fs (conversions cs) t = is_converted fs cs t
is_terminal fs (entries es) t = is_entered es t

abbrev pub are_terminals_distinct : Features → SourceData → Bool
are_terminals_distinct fs (conversions cs) = are_conversions_distinct fs cs
are_terminals_distinct fs (entries es) = are_entries_distinct es
