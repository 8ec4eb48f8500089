-- What was made of rules so far, and the types of rules by their numbers.
use Rattle.std.specs.Prelude.{◌≡◌, ℕ, List, Option, Some, drop, map, option_map, slice_get}
use Rattle.lalrpop_norm_tree_names.specs.declared.names.NonterminalString.{NonterminalString}
use Rattle.lalrpop_norm_tree_parts.specs.Reprs.{ReprData}
use Rattle.lalrpop_norm_tree.specs.declared.items.GrammarItem.{GrammarItem}
use Rattle.lalrpop_norm_tree.specs.Items.{RuleData, item_view}
use Rattle.lalrpop_norm_repr.specs.Productions.{nonterminal_data_view}
use Rattle.lalrpop_norm_repr.specs.Tables.{TypeTable, type_of, rows}
use Rattle.lalrpop_norm_shared_types.specs.Shared.{shared_view}
use Rattle.lalrpop_norm_shared_types.specs.Table.{shared_table}
use Rattle.lalrpop_norm_lower.specs.declared.numbered.NumberedTypes.{NumberedTypes}
use Rattle.lalrpop_norm_lower.specs.declared.state.RuleState.{RuleState}
use Rattle.lalrpop_norm_lower.specs.Lowering.{EntryRow, rules_among}

abbrev pub table_by_number : NumberedTypes → TypeTable
table_by_number types = shared_table types.table.now

abbrev pub types_by_number : NumberedTypes → List (Option ReprData)
types_by_number types = map (option_map (λ t. shared_view t.now)) types.by_number.items

-- what the table has for the name is at that number
abbrev pub IsTypeAt : NumberedTypes → ℕ → NonterminalString → Type 0
IsTypeAt types k name = slice_get (types_by_number types) k ≡ Some (type_of name (table_by_number types))

-- what it has for these rules, in order, is from that number on, and nothing behind
abbrev pub AreTypesFrom : NumberedTypes → ℕ → List RuleData → Type 0
AreTypesFrom types k rs = drop k (types_by_number types) ≡ map (λ r. type_of r.name (table_by_number types)) rs

-- the nonterminals made so far, by their names
abbrev pub state_nonterminals : RuleState → List EntryRow
state_nonterminals state = rows nonterminal_data_view state.nonterminals

-- the rules among items
abbrev pub rules_in : List GrammarItem → List RuleData
rules_in items = rules_among (map item_view items)
