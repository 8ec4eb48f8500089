-- What rules of the expanded grammar are lowered to: symbols, numbered productions, start symbols; and tables sorted by names.
use Rattle.std.specs.Prelude.{ℕ, ◌+◌, List, [], ◌∷◌, length, unwrap_or, filter_map, if◌then◌else◌}
use Rattle.std.specs.BTreeMap.{insert_entry}
use Rattle.std.specs.Ordering.{nat_cmp}
use Rattle.std.specs.Cmp.Lexicographic.{slice_cmp}
use Rattle.lalrpop_norm_tree_names.specs.declared.names.NonterminalString.{NonterminalString}
use Rattle.lalrpop_norm_tree_names.specs.declared.names.Span.{Span}
use Rattle.lalrpop_norm_tree_names.specs.declared.names.TerminalString.TheVariants as terminal_string
use Rattle.lalrpop_norm_tree.specs.Accessors.{rule_of, is_public}
use Rattle.lalrpop_norm_tree.specs.Items.{AlternativeData, RuleData, ItemData}
use Rattle.lalrpop_norm_tree_parts.specs.Reprs.{ReprData, unit_type}
use Rattle.lalrpop_norm_tree.specs.Symbols.{Kind, terminal, nonterminal, error_terminal, Part, Parts, no_parts, part_and}
use Rattle.lalrpop_norm_tree.specs.Traversal.{wrapped_kind, wrapped_part}
use Rattle.lalrpop_norm_tree.specs.SymbolTexts.{kind_text}
use Rattle.lalrpop_norm_repr.specs.declared.action.ActionFn.{ActionFn}
use Rattle.lalrpop_norm_repr.specs.declared.symbol.Symbol.{Symbol}
use Rattle.lalrpop_norm_repr.specs.declared.symbol.Symbol.TheVariants.{Nonterminal, Terminal}
use Rattle.lalrpop_norm_repr.specs.Productions.{ProductionData, EntryData}
use Rattle.lalrpop_norm_repr.specs.Tables.{TypeTable, type_of}
use Rattle.lalrpop_norm_repr.specs.SymbolTypes.{symbol_type}
pub use Rattle.lalrpop_norm_lower_steps.specs.Code.{is_fallible}
pub use Rattle.lalrpop_norm_lower_steps.specs.StartSymbols.{start_name, start_alternative, start_entry_with}

-- ---- rules

-- the rules of a grammar, in item order
abbrev pub rules_among : List ItemData → List RuleData
rules_among items = filter_map rule_of items

abbrev pub public_rules_in : List RuleData → List RuleData
public_rules_in [] = []
public_rules_in (r ∷ rs) = if is_public r.visibility then r ∷ public_rules_in rs else public_rules_in rs

-- ---- symbols and types

-- a terminal stays as it is, `!` is the error terminal, and any other symbol is the nonterminal of its text
abbrev pub lowered_leaf : Kind → Symbol
lowered_leaf (terminal t) = Terminal t
lowered_leaf (nonterminal n) = Nonterminal (record { 0 = n })
lowered_leaf error_terminal = Terminal terminal_string.Error
lowered_leaf k = Nonterminal (record { 0 = kind_text k })

-- a selected, named or tuple symbol is what is in it
abbrev pub lowered_kind : Kind → Symbol
lowered_kind k = lowered_leaf (wrapped_kind k)

abbrev pub lowered_symbol : Part → Symbol
lowered_symbol p = lowered_leaf (wrapped_part p)

abbrev pub lowered_symbols : Parts → List Symbol
lowered_symbols no_parts = []
lowered_symbols (part_and p ps) = lowered_symbol p ∷ lowered_symbols ps

abbrev pub type_or_unit : TypeTable → Symbol → ReprData
type_or_unit types s = unwrap_or (symbol_type s types) unit_type

-- ---- productions

abbrev pub production_with : NonterminalString → List Symbol → ActionFn → Span → ProductionData
production_with name symbols action span = record { nonterminal = name; symbols = symbols; action = action; span = span }

-- the production of an alternative, with the action of that number
abbrev pub production_of : NonterminalString → ℕ → AlternativeData → ProductionData
production_of name k a = production_with name (lowered_symbols a.parts) (record { 0 = k }) a.span

-- the productions of a nonterminal; their actions are numbered from k on
abbrev pub productions_from : NonterminalString → ℕ → List AlternativeData → List ProductionData
productions_from name k [] = []
productions_from name k (a ∷ rest) = production_of name k a ∷ productions_from name (k + 1) rest

-- the type of a rule by the table
abbrev pub rule_type : TypeTable → RuleData → ReprData
rule_type types r = unwrap_or (type_of r.name types) unit_type

-- ---- start symbols first, then the alternatives in item order

-- a row of the nonterminals
abbrev pub EntryRow : Type 0
EntryRow = NonterminalString × EntryData

abbrev pub start_entry : List ℕ → ℕ → RuleData → EntryData
start_entry prefix k r = start_entry_with r (production_of (start_name prefix r.name) k (start_alternative r))

abbrev pub start_rows : List ℕ → ℕ → List RuleData → List EntryRow
start_rows prefix k [] = []
start_rows prefix k (r ∷ rs) = (start_name prefix r.name, start_entry prefix k r) ∷ start_rows prefix (k + 1) rs

-- the entry of a rule with these productions
abbrev pub entry_with : RuleData → List ProductionData → EntryData
entry_with r productions =
    record { visibility = r.visibility; span = r.span; attributes = r.attributes; productions = productions }

abbrev pub rule_entry : ℕ → RuleData → EntryData
rule_entry k r = entry_with r (productions_from r.name k r.alternatives)

abbrev pub rule_rows : ℕ → List RuleData → List EntryRow
rule_rows k [] = []
rule_rows k (r ∷ rs) = (r.name, rule_entry k r) ∷ rule_rows (k + length r.alternatives) rs

-- each rule and its start symbol
abbrev pub start_names : List ℕ → List RuleData → List (NonterminalString × NonterminalString)
start_names prefix [] = []
start_names prefix (r ∷ rs) = (r.name, start_name prefix r.name) ∷ start_names prefix rs

-- ---- tables sorted by names

abbrev pub with_entry : {V : Type 0} → List (NonterminalString × V) → NonterminalString × V →
    List (NonterminalString × V)
with_entry rows r = insert_entry (λ (a : NonterminalString) (b : NonterminalString). slice_cmp nat_cmp a.0 b.0) rows r.0 r.1

-- the rows in the order of their names, a later one replaces an earlier one of its name
abbrev pub sorted_onto : {V : Type 0} → List (NonterminalString × V) → List (NonterminalString × V) →
    List (NonterminalString × V)
sorted_onto rows [] = rows
sorted_onto rows (r ∷ rs) = sorted_onto (with_entry rows r) rs
