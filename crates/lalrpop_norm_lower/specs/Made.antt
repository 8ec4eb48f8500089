-- What lowering makes, as it counts: the definitions of the code, from which the promises are proved.
use Rattle.std.specs.Prelude.{◌≡◌, ℕ, ◌+◌, List, [], ◌∷◌, ◌++◌, length, map, filter_map, flat_map, Option}
use Rattle.std.specs.Prelude.{Some, None, if◌then◌else◌}
use Rattle.std.specs.List.Sorted.{IsStrictlySortedBy}
use Rattle.std.specs.Map.{keys_of}
use Rattle.lalrpop_norm_tree.specs.declared.items.MatchEntry.{MatchEntry}
use Rattle.lalrpop_norm_tree_names.specs.declared.names.Span.{Span}
use Rattle.lalrpop_norm_tree_names.specs.declared.names.TerminalString.{TerminalString}
use Rattle.lalrpop_norm_tree_names.specs.declared.names.TerminalString.TheVariants as terminal_string
use Rattle.lalrpop_norm_tree.specs.Accessors.{first_of, intern_token_of}
use Rattle.lalrpop_norm_tree.specs.Items.{Action, lookahead_code, lookbehind_code, AlternativeData, RuleData, ConversionData}
use Rattle.lalrpop_norm_tree.specs.Items.{ItemData, match_item, extern_item, intern_item, rule_item, use_item, GrammarData}
use Rattle.lalrpop_norm_tree_parts.specs.Reprs.{ReprData}
use Rattle.lalrpop_norm_tree.specs.LoweredTypes.{repr_of}
use Rattle.lalrpop_norm_faults.specs.Faults.{Fault}
use Rattle.lalrpop_norm_model.specs.Features.{Features, is_active}
use Rattle.lalrpop_norm_model.specs.LoweringFaults.{start_faults, code_faults, action_number_faults}
use Rattle.lalrpop_norm_model.specs.MadeRules.{some_name_value}
use Rattle.lalrpop_norm_repr.specs.declared.action.LookaroundActionFnDefn.TheVariants.{Lookahead, Lookbehind}
use Rattle.lalrpop_norm_repr.specs.Actions.{ActionData, ActionKindData, user, lookaround}
use Rattle.lalrpop_norm_repr.specs.Lowered.{LoweredGrammar}
use Rattle.lalrpop_norm_repr.specs.Orders.{name_cmp}
use Rattle.lalrpop_norm_repr.specs.Tables.{TypeTable}
use Rattle.lalrpop_norm_lower.specs.Carried.{TokenRow, internal_pattern, terminal_of_mapping, uses_recovery, use_of}
use Rattle.lalrpop_norm_lower.specs.Carried.{lowered_parameter, lowered_clauses, asks_lalr, asked_code}
use Rattle.lalrpop_norm_lower_steps.specs.Code.{written_code}
use Rattle.lalrpop_norm_model.specs.Scopes.{conversions_in}
use Rattle.lalrpop_norm_lower.specs.Conversions.{mapped_pattern, sorted_terminals, numbered_terminals}
use Rattle.lalrpop_norm_lower.specs.Lowering.{rules_among, public_rules_in, start_alternative, lowered_symbols, type_or_unit}
use Rattle.lalrpop_norm_lower.specs.Lowering.{is_fallible, rule_type, start_names, start_rows, rule_rows, sorted_onto}
use Rattle.lalrpop_norm_lower.specs.Naming.{argument_patterns, source_names}
use Rattle.lalrpop_norm_lower_steps.specs.Slots.{filled_code}
use Rattle.lalrpop_norm_lower.specs.StartTypes.{start_types, AddsTypes}
pub use Rattle.lalrpop_norm_lower_steps.specs.StartSymbols.{types_by_name}

-- ---- actions

-- what is written, with the names of the sources in place of the `<>`
abbrev pub made_code : List ℕ → ReprData → AlternativeData → List ℕ
made_code prefix type a =
    filled_code (some_name_value a.parts) (source_names prefix a.parts)
    (written_code type (source_names prefix a.parts) a.action)

-- action code over one argument for each symbol
abbrev pub user_body : List ℕ → TypeTable → ReprData → AlternativeData → ActionKindData
user_body prefix types type a =
    user (argument_patterns prefix a.parts) (map (type_or_unit types) (lowered_symbols a.parts)) (made_code prefix type a)

abbrev pub body : List ℕ → TypeTable → ReprData → AlternativeData → Option Action → ActionKindData
body prefix types type a (Some lookahead_code) = lookaround Lookahead
body prefix types type a (Some lookbehind_code) = lookaround Lookbehind
body prefix types type a _ = user_body prefix types type a

-- the action of an alternative of a rule of that type
abbrev pub made_action : List ℕ → TypeTable → ReprData → AlternativeData → ActionData
made_action prefix types type a =
    record { fallible = is_fallible a.action; ret_type = type; kind = body prefix types type a a.action }

-- of start symbols, and of the alternatives in item order
abbrev pub made_starts : List ℕ → TypeTable → List RuleData → List ActionData
made_starts prefix types rs = map (λ r. made_action prefix types (rule_type types r) (start_alternative r)) rs

abbrev pub made_actions : List ℕ → TypeTable → List RuleData → List ActionData
made_actions prefix types [] = []
made_actions prefix types (r ∷ rs) =
    map (made_action prefix types (rule_type types r)) r.alternatives ++ made_actions prefix types rs

-- ---- faults

-- each alternative with the number of its action, from k on
abbrev pub alternatives_faults : ℕ → List AlternativeData → List Fault
alternatives_faults k [] = []
alternatives_faults k (a ∷ rest) = code_faults a ++ action_number_faults k a.span ++ alternatives_faults (k + 1) rest

abbrev pub made_starts_faults : List ℕ → TypeTable → ℕ → List RuleData → List Fault
made_starts_faults prefix types k [] = []
made_starts_faults prefix types k (r ∷ rs) =
    start_faults prefix (types_by_name types) r ++ action_number_faults k r.span ++ made_starts_faults prefix types (k + 1) rs

abbrev pub made_rules_faults : ℕ → List RuleData → List Fault
made_rules_faults k [] = []
made_rules_faults k (r ∷ rs) = alternatives_faults k r.alternatives ++ made_rules_faults (k + length r.alternatives) rs

abbrev pub made_faults : List ℕ → TypeTable → List RuleData → List Fault
made_faults prefix types rules =
    made_starts_faults prefix types 0 (public_rules_in rules) ++ made_rules_faults (length (public_rules_in rules)) rules

-- ---- tokens

-- the active conversions
abbrev pub conversion_rows : Features → List ConversionData → List TokenRow
conversion_rows fs [] = []
conversion_rows fs (c ∷ cs) =
    if is_active fs c.attributes then (c.from, mapped_pattern repr_of c.to)
    ∷ conversion_rows fs cs else conversion_rows fs cs

abbrev pub row_named : Span → ℕ → Option TerminalString → List TokenRow
row_named span k None = []
row_named span k (Some t) = (t, internal_pattern span k) ∷ []

-- the entry of number k, if it names a terminal
abbrev pub row_of_entry : Span → ℕ → MatchEntry → List TokenRow
row_of_entry span k e = row_named span k (terminal_of_mapping e.user_name)

abbrev pub entry_rows_from : Span → ℕ → List MatchEntry → List TokenRow
entry_rows_from span k [] = []
entry_rows_from span k (e ∷ es) = row_of_entry span k e ++ entry_rows_from span (k + 1) es

abbrev pub token_rows : Features → Span → ItemData → List TokenRow
token_rows fs span (extern_item t) = conversion_rows fs (conversions_in t.enum_token)
token_rows fs span (intern_item t) = entry_rows_from span 0 t.match_entries
token_rows fs span (match_item m) = []
token_rows fs span (rule_item r) = []
token_rows fs span (use_item s) = []

abbrev pub made_tokens : Features → GrammarData → List TokenRow
made_tokens fs g = flat_map (token_rows fs g.span) g.items

abbrev pub made_terminals : Features → GrammarData → List TerminalString
made_terminals fs g =
    keys_of (made_tokens fs g) ++ (if uses_recovery (rules_among g.items) then terminal_string.Error ∷ [] else [])

-- ---- the whole

-- these actions are those of start symbols, then those of the alternatives in item order
abbrev pub HasActions : GrammarData → TypeTable → List ActionData → Type 0
HasActions g types actions = actions ≡ made_starts g.prefix types (public_rules_in (rules_among g.items))
    ++ made_actions g.prefix types (rules_among g.items)

-- what lowering makes of the grammar, where `types` is the table of its rules
pub record IsMade (fs : Features) (g : GrammarData) (types : TypeTable) (l : LoweredGrammar) : Type 0 where
  pub actions : HasActions g types l.actions
  pub nonterminals : l.nonterminals
      ≡ sorted_onto (sorted_onto [] (start_rows g.prefix 0 (public_rules_in (rules_among g.items))))
      (rule_rows (length (public_rules_in (rules_among g.items))) (rules_among g.items))
  pub start_nonterminals : l.start_nonterminals ≡ sorted_onto [] (start_names g.prefix (public_rules_in (rules_among g.items)))
  pub all_terminals : l.terminals.all ≡ made_terminals fs g
  pub terminal_numbers : l.terminals.bits ≡ sorted_terminals [] (numbered_terminals 0 (made_terminals fs g))
  pub conversions : l.conversions ≡ sorted_terminals [] (made_tokens fs g)
  pub start_symbol_types : AddsTypes types l.types (start_types g.prefix types (public_rules_in (rules_among g.items)))
  pub names_in_order : IsStrictlySortedBy name_cmp (keys_of l.types.nonterminals)
  pub prefix : l.prefix ≡ g.prefix
  pub lalr : l.algorithm.lalr ≡ asks_lalr g.attributes
  pub codegen : l.algorithm.codegen ≡ asked_code g.attributes
  pub uses_error_recovery : l.uses_error_recovery ≡ uses_recovery (rules_among g.items)
  pub uses : l.uses ≡ filter_map use_of g.items
  pub type_parameters : l.type_parameters ≡ g.type_parameters
  pub parameters : l.parameters ≡ map lowered_parameter g.parameters
  pub where_clauses : l.where_clauses ≡ flat_map lowered_clauses g.where_clauses
  pub intern_token : l.intern_token ≡ first_of intern_token_of g.items
  pub module_attributes : l.module_attributes ≡ g.module_attributes
