-- What lowering has made of the rules of a grammar.
use Rattle.std.specs.Prelude.{◌≡◌, ℕ, List, [], length}
use Rattle.std.specs.List.Sorted.{IsStrictlySortedBy}
use Rattle.std.specs.Map.{keys_of}
use Rattle.lalrpop_norm_tree.specs.Items.{RuleData}
use Rattle.lalrpop_norm_repr.specs.Orders.{name_cmp}
use Rattle.lalrpop_norm_repr.specs.Productions.{nonterminal_data_view}
use Rattle.lalrpop_norm_repr.specs.Tables.{TypeTable, rows}
use Rattle.lalrpop_norm_shared_types.specs.Table.{shared_table}
use Rattle.lalrpop_norm_lower.specs.declared.lowered_rules.LoweredRules.{LoweredRules}
use Rattle.lalrpop_norm_lower.specs.declared.lowered_rules.Produced.{Produced}
use Rattle.lalrpop_norm_lower.specs.Carried.{uses_recovery}
use Rattle.lalrpop_norm_lower.specs.Lowering.{public_rules_in, start_names, start_rows, rule_rows, sorted_onto}
use Rattle.lalrpop_norm_lower.specs.StartTypes.{start_types, AddsTypes}

-- of these rules, under that prefix
pub record IsProduced (prefix : List ℕ) (rules : List RuleData) (p : Produced) : Type 0 where
  pub start_nonterminals : p.start_nonterminals.entries ≡ sorted_onto [] (start_names prefix (public_rules_in rules))
  pub nonterminals : rows nonterminal_data_view p.nonterminals
      ≡ sorted_onto (sorted_onto [] (start_rows prefix 0 (public_rules_in rules))) (rule_rows (length (public_rules_in rules)) rules)
  pub recovers : p.recovers ≡ uses_recovery rules

-- of these rules, under that prefix, with the types of the table and those of start symbols
pub record AreMadeRules (prefix : List ℕ) (types : TypeTable) (rules : List RuleData) (r : LoweredRules) : Type 0 where
  pub start_nonterminals : r.start_nonterminals.entries ≡ sorted_onto [] (start_names prefix (public_rules_in rules))
  pub nonterminals : rows nonterminal_data_view r.nonterminals
      ≡ sorted_onto (sorted_onto [] (start_rows prefix 0 (public_rules_in rules))) (rule_rows (length (public_rules_in rules)) rules)
  pub start_symbol_types : AddsTypes types (shared_table r.types) (start_types prefix types (public_rules_in rules))
  pub names_in_order : IsStrictlySortedBy name_cmp (keys_of (shared_table r.types).nonterminals)
