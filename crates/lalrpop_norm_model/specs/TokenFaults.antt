-- All errors of the pass on tokens but those of its lexer, in visiting order.
use Rattle.std.specs.Prelude.{Bool, true, false, not, ◌||◌, List, [], ◌∷◌, ◌++◌, flat_map, Option, Some, None}
use Rattle.std.specs.Prelude.{bytes_eq, is_none, codes}
use Rattle.std.specs.List.{list_any}
use Rattle.lalrpop_norm_tree_names.specs.declared.names.TerminalLiteral.{TerminalLiteral}
use Rattle.lalrpop_norm_tree_names.specs.declared.names.TerminalString.{TerminalString}
use Rattle.lalrpop_norm_tree_names.specs.declared.names.TerminalString.TheVariants.{Literal, Bare, Error}
use Rattle.lalrpop_norm_tree_names.specs.declared.names.TypeParameter.{TypeParameter}
use Rattle.lalrpop_norm_tree_names.specs.declared.names.TypeParameter.TheVariants as parameter
use Rattle.lalrpop_norm_tree.specs.declared.items.MatchItem.{MatchItem}
use Rattle.lalrpop_norm_tree.specs.declared.items.MatchItem.TheVariants.{CatchAll, Unmapped, Mapped}
use Rattle.lalrpop_norm_tree.specs.Accessors.{match_item_span}
use Rattle.lalrpop_norm_tree.specs.Items.{ConversionData, EnumTokenData, MatchTokenData, GrammarData}
use Rattle.lalrpop_norm_tree.specs.Types.{ParameterData}
use Rattle.lalrpop_norm_faults.specs.Faults.{Fault, fault_if}
use Rattle.lalrpop_norm_faults.specs.declared.kind.FaultKind.TheVariants.{LiteralTwice, TerminalTwice, NoMapping, NoPattern}
use Rattle.lalrpop_norm_faults.specs.declared.kind.FaultKind.TheVariants.{InputLifetime, InputParameter}
use Rattle.lalrpop_norm_model.specs.Terminals.{same_literal, same_terminal}
pub use Rattle.lalrpop_norm_model.specs.Terminals.{places_in, places_in_kind, places_in_parts, places_used}
use Rattle.lalrpop_norm_model.specs.Entries.{match_block, match_entries, item_entries, catch_all, user_names}
use Rattle.lalrpop_norm_model.specs.TerminalTypes.{extern_enum}

-- f of each of a list and of what is before it, the nearest first
abbrev pub each_after : {A B : Type 0} → (List A → A → List B) → List A → List A → List B
each_after f before [] = []
each_after f before (x ∷ xs) = f before x ++ each_after f (x ∷ before) xs

-- ---- match blocks

abbrev pub literals_of : MatchItem → List TerminalLiteral
literals_of (Mapped l m s) = l ∷ []
literals_of (Unmapped l s) = l ∷ []
literals_of (CatchAll s) = []

-- the terminals that an item names, whatever its precedence
abbrev pub names_mapped_by : MatchItem → List TerminalString
names_mapped_by i = user_names (item_entries 0 i)

-- an item whose literal, or whose terminal, an item before it has
abbrev pub match_item_faults : List MatchItem → MatchItem → List Fault
match_item_faults before i =
    fault_if (list_any (λ l. list_any (same_literal l) (flat_map literals_of before)) (literals_of i))
    (LiteralTwice, match_item_span i)
    ++ fault_if (list_any (λ t. list_any (same_terminal t) (flat_map names_mapped_by before)) (names_mapped_by i))
    (TerminalTwice, match_item_span i)

abbrev pub items_of : Option MatchTokenData → List MatchItem
items_of None = []
items_of (Some m) = flat_map (λ items. items) m.contents

-- the items of the match block, group by group
abbrev pub match_items : GrammarData → List MatchItem
match_items g = items_of (match_block g)

-- ---- conversions

-- a conversion whose terminal one before it has
abbrev pub repeated_conversion_faults : List ConversionData → ConversionData → List Fault
repeated_conversion_faults before c =
    fault_if (list_any (λ (b : ConversionData). same_terminal c.from b.from) before) (TerminalTwice, c.span)

-- ---- symbols

-- whether a terminal has an entry: as a user name, or, where it is a literal, by the catch-all
abbrev pub has_entry : GrammarData → TerminalString → Bool
has_entry g (Literal l) = list_any (same_terminal (Literal l)) (user_names (match_entries g)) || not (is_none (catch_all g))
has_entry g (Bare a) = list_any (same_terminal (Bare a)) (user_names (match_entries g))
has_entry g Error = true

abbrev pub has_conversion : List ConversionData → TerminalString → Bool
has_conversion cs t = list_any (λ (c : ConversionData). same_terminal t c.from) cs

-- ---- declarations beside internal tokens

abbrev pub is_input_lifetime : TypeParameter → Bool
is_input_lifetime (parameter.Lifetime l) = bytes_eq l.0 (codes "'input")
is_input_lifetime (parameter.Id a) = false

abbrev pub input_faults : GrammarData → List Fault
input_faults g =
    fault_if (list_any is_input_lifetime g.type_parameters) (InputLifetime, g.span)
    ++ fault_if (list_any (λ (p : ParameterData). bytes_eq p.name (codes "input")) g.parameters) (InputParameter, g.span)

-- ---- all of them

-- conversions, then the terminals used: each has a conversion
abbrev pub checked_enum_faults : EnumTokenData → GrammarData → List Fault
checked_enum_faults e g =
    each_after repeated_conversion_faults [] e.conversions
    ++ flat_map (λ p. fault_if (not (has_conversion e.conversions p.0)) (NoPattern, p.1)) (places_used g)

-- the match block, then the terminals used: each has an entry
abbrev pub entry_faults : GrammarData → List Fault
entry_faults g =
    each_after match_item_faults [] (match_items g)
    ++ flat_map (λ p. fault_if (not (has_entry g p.0)) (NoMapping, p.1)) (places_used g)

abbrev pub token_faults_with : Option EnumTokenData → GrammarData → List Fault
token_faults_with (Some e) g = checked_enum_faults e g
token_faults_with None g = entry_faults g ++ input_faults g

-- with an extern enum its conversions and the symbols; else the match block, the symbols, what is declared
abbrev pub token_faults : GrammarData → List Fault
token_faults g = token_faults_with (extern_enum g) g
