-- The types that need no inference: of terminals, of locations, of errors and of `!`.
use Rattle.std.specs.Prelude.{ℕ, List, [], ◌∷◌, ◌++◌, map, flat_map, Option, Some, None, option_map}
use Rattle.std.specs.Prelude.{option_and_then, unwrap_or, codes, if◌then◌else◌}
use Rattle.lalrpop_norm_tree_names.specs.declared.names.TerminalString.{TerminalString}
use Rattle.lalrpop_norm_tree_names.specs.declared.names.TerminalString.TheVariants.{Literal, Bare, Error}
use Rattle.lalrpop_norm_tree.specs.declared.items.MatchEntry.{MatchEntry}
use Rattle.lalrpop_norm_tree_parts.specs.Accessors.{path_of}
use Rattle.lalrpop_norm_tree.specs.Accessors.{first_of, enum_token_of, extern_token_of, intern_token_of, type_named}
use Rattle.lalrpop_norm_tree.specs.Items.{AssociatedTypeData, ConversionData, EnumTokenData, ExternTokenData, InternTokenData}
use Rattle.lalrpop_norm_tree.specs.Items.{GrammarData}
use Rattle.lalrpop_norm_tree.specs.LoweredTypes.{repr_of}
pub use Rattle.lalrpop_norm_tree_patterns.specs.MappedPatterns.{chosen_in_kind, chosen_in_pattern, chosen_in_all, chosen_in_fields}
use Rattle.lalrpop_norm_tree_parts.specs.Reprs as lowered
use Rattle.lalrpop_norm_tree_parts.specs.Reprs.{ReprData, nominal, of_lifetime, no_reprs, repr_and, reprs_of, named_repr}
use Rattle.lalrpop_norm_tree_parts.specs.Reprs.{unit_type, static_str}
pub use Rattle.lalrpop_norm_tree_parts.specs.Reprs.{input_lifetime, input_str}
use Rattle.lalrpop_norm_model.specs.Entries.{user_names, match_entries, catch_all}
use Rattle.lalrpop_norm_model.specs.Terminals.{same_terminal, terminals_used}

-- ---- types with a name

-- `Token<'input>`
abbrev pub token_of_input : ReprData
token_of_input = nominal (path_of (codes "Token" ∷ [])) (repr_and (of_lifetime input_lifetime) no_reprs)

-- ---- what a grammar declares

-- the extern enum: the first of any extern block; without one tokens are internal
abbrev pub extern_enum : GrammarData → Option EnumTokenData
extern_enum g = first_of enum_token_of g.items

abbrev pub first_extern : GrammarData → Option ExternTokenData
first_extern g = first_of extern_token_of g.items

-- The type that the first extern block declares under a name. Types that an extern block writes are lowered as they are.
abbrev pub declared_under : List ℕ → GrammarData → Option ReprData
declared_under name g =
    option_map (λ (t : AssociatedTypeData). repr_of t.type_ref)
    (option_and_then (λ (t : ExternTokenData). first_of (type_named name) t.associated_types) (first_extern g))

abbrev pub location_with : Option EnumTokenData → GrammarData → Option ReprData
location_with (Some e) g = declared_under (codes "Location") g
location_with None g = Some (named_repr (codes "usize"))

-- the type of a location: the one that is declared beside an extern enum, if any; `usize` where tokens are internal
abbrev pub declared_location : GrammarData → Option ReprData
declared_location g = location_with (extern_enum g) g

abbrev pub token_with : Option EnumTokenData → ReprData
token_with (Some e) = repr_of e.type_name
token_with None = token_of_input

-- the type of a token: the enum; `Token<'input>` where tokens are internal
abbrev pub token_type : GrammarData → ReprData
token_type g = token_with (extern_enum g)

-- the type of the user's errors, `&'static str` where none is declared
abbrev pub error_type : GrammarData → ReprData
error_type g = unwrap_or (declared_under (codes "Error") g) static_str

-- the type of `!`: `{prefix}lalrpop_util::ErrorRecovery<L, T, E>`, where L is the unit type if there is no type of a location
abbrev pub recovery_type : GrammarData → ReprData
recovery_type g =
    nominal (path_of ((g.prefix ++ codes "lalrpop_util") ∷ codes "ErrorRecovery" ∷ []))
    (repr_and (unwrap_or (declared_location g) unit_type) (repr_and (token_type g) (repr_and (error_type g) no_reprs)))

-- ---- selected types of patterns

-- one type bare, several as a tuple; nothing of none
abbrev pub type_of_chosen : List ReprData → Option ReprData
type_of_chosen [] = None
type_of_chosen (t ∷ []) = Some t
type_of_chosen (t ∷ u ∷ ts) = Some (lowered.tuple (reprs_of (t ∷ u ∷ ts)))

-- ---- terminals

-- a terminal with a type of its own
abbrev pub TerminalRow : Type 0
TerminalRow = TerminalString × ReprData

abbrev pub row_for : TerminalString → Option ReprData → List TerminalRow
row_for t None = []
row_for t (Some x) = (t, x) ∷ []

-- a conversion that selects types gives these to its terminal
abbrev pub conversion_row : ConversionData → List TerminalRow
conversion_row c = row_for c.from (type_of_chosen (map repr_of (chosen_in_pattern c.to)))

abbrev pub entries_of : Option InternTokenData → List MatchEntry
entries_of None = []
entries_of (Some t) = t.match_entries

-- the entries of the internal tokens
abbrev pub intern_entries : GrammarData → List MatchEntry
intern_entries g = entries_of (first_of intern_token_of g.items)

-- a literal that a catch-all of that precedence lets in
abbrev pub let_in : Option ℕ → TerminalString → List TerminalString
let_in (Some precedence) (Literal l) = Literal l ∷ []
let_in None (Literal l) = []
let_in o (Bare a) = []
let_in o Error = []

abbrev pub named_with : Option InternTokenData → GrammarData → List TerminalString
named_with (Some t) g = user_names t.match_entries
named_with None g = user_names (match_entries g) ++ flat_map (let_in (catch_all g)) (terminals_used g)

-- the terminals that the entries of the internal tokens name; where there are no internal tokens yet, those that the grammar's
-- entries will name
abbrev pub named_terminals : GrammarData → List TerminalString
named_terminals g = named_with (first_of intern_token_of g.items) g

-- with an extern enum the conversions' rows; else `&'input str` for each terminal that an entry names
abbrev pub rows_with : Option EnumTokenData → GrammarData → List TerminalRow
rows_with (Some e) g = flat_map conversion_row e.conversions
rows_with None g = map (λ t. (t, input_str)) (named_terminals g)

-- the terminals with a type of their own: the error terminal, and those of the grammar
abbrev pub terminal_rows : GrammarData → List TerminalRow
terminal_rows g = (Error, recovery_type g) ∷ rows_with (extern_enum g) g

-- the first of the rows for a terminal
abbrev pub row_of : TerminalString → List TerminalRow → Option ReprData
row_of t [] = None
row_of t (r ∷ rows) = if same_terminal r.0 t then Some r.1 else row_of t rows

-- the type of a terminal: its own, else that of a token
abbrev pub terminal_type : GrammarData → TerminalString → ReprData
terminal_type g t = unwrap_or (row_of t (terminal_rows g)) (token_type g)
