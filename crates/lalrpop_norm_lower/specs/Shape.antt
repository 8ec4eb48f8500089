-- What the rules of a grammar are lowered to: the shape of a lowered grammar, field by field, each by what is looked up in it.
use Rattle.std.specs.Prelude.{◌≡◌, ℕ, ◌↔◌, List, [], ◌∷◌, ◌++◌, map, filter, flat_map, filter_map, Option}
use Rattle.std.specs.Prelude.{Some, None, option_and_then, bytes_eq, slice_get, if◌then◌else◌}
use Rattle.std.specs.List.{list_any, enumerate_from, AllZip}
use Rattle.std.specs.List.Sorted.{IsStrictlySortedBy}
use Rattle.std.specs.Map.{keys_of}
use Rattle.lalrpop_norm_tree_names.specs.declared.names.NonterminalString.{NonterminalString}
use Rattle.lalrpop_norm_tree_names.specs.declared.names.TerminalString.{TerminalString}
use Rattle.lalrpop_norm_tree_names.specs.declared.names.TerminalString.TheVariants as terminal_string
use Rattle.lalrpop_norm_tree.specs.Accessors.{first_of, intern_token_of, or_else}
use Rattle.lalrpop_norm_tree_parts.specs.Attributes.{no_attributes}
use Rattle.lalrpop_norm_tree.specs.Items.{Action, user_code, fallible_code, lookahead_code, lookbehind_code, AlternativeData}
use Rattle.lalrpop_norm_tree.specs.Items.{RuleData, GrammarData}
use Rattle.lalrpop_norm_tree_parts.specs.Reprs.{ReprData}
use Rattle.lalrpop_norm_model.specs.MadeRules.{names_value}
use Rattle.lalrpop_norm_repr.specs.declared.action.LookaroundActionFnDefn.TheVariants.{Lookahead, Lookbehind}
use Rattle.lalrpop_norm_repr.specs.Actions.{ActionData, ActionKindData, user, lookaround}
use Rattle.lalrpop_norm_repr.specs.Lowered.{LoweredGrammar}
pub use Rattle.lalrpop_norm_repr.specs.Orders.{name_cmp}
use Rattle.lalrpop_norm_repr.specs.Productions.{ProductionData, EntryData}
use Rattle.lalrpop_norm_repr.specs.SymbolTypes.{symbol_type}
use Rattle.lalrpop_norm_repr.specs.Tables.{TypeTable, type_of, found, found_terminal}
use Rattle.lalrpop_norm_lower.specs.Arguments.{part_list, patterns, names, IsFilled}
use Rattle.lalrpop_norm_lower.specs.Carried.{tokens_of, uses_recovery, lowered_parameter, lowered_clauses, use_of, asks_lalr}
use Rattle.lalrpop_norm_lower.specs.Carried.{asked_code}
use Rattle.lalrpop_norm_lower_steps.specs.Code.{written_code}
use Rattle.lalrpop_norm_lower.specs.Conversions.{terminal_cmp}
use Rattle.lalrpop_norm_lower.specs.Lowering.{public_rules_in, start_name, start_alternative, lowered_symbols, is_fallible}
use Rattle.lalrpop_norm_lower.specs.Lowering.{production_of}

-- ---- alternatives in their order

-- an alternative of the nonterminal of that name
abbrev pub OwnedAlternative : Type 0
OwnedAlternative = NonterminalString × AlternativeData

abbrev pub start_clause : List ℕ → RuleData → OwnedAlternative
start_clause prefix r = (start_name prefix r.name, start_alternative r)

abbrev pub rule_clauses : RuleData → List OwnedAlternative
rule_clauses r = map (λ a. (r.name, a)) r.alternatives

-- for each public rule its start symbol, then for each rule its alternatives. Action k belongs to the k-th of them, from 0
abbrev pub alternatives_in_order : List ℕ → List RuleData → List OwnedAlternative
alternatives_in_order prefix rules = map (start_clause prefix) (public_rules_in rules) ++ flat_map rule_clauses rules

-- ---- actions

-- action code over one argument for each symbol
pub record IsCodeOf (prefix : List ℕ) (types : TypeTable) (type : ReprData) (a : AlternativeData)
    (kind : ActionKindData) : Type 0 where
  pub argument_types : List ReprData
  pub code : List ℕ
  pub is : kind ≡ user (patterns prefix (part_list a.parts)) argument_types code
  -- each argument has the type of its symbol
  pub typed : AllZip (λ s t. symbol_type s types ≡ Some t) (lowered_symbols a.parts) argument_types
  pub filled : IsFilled (list_any names_value (part_list a.parts)) (names prefix (part_list a.parts))
      (written_code type (names prefix (part_list a.parts)) a.action) code

-- what the action of an alternative does
abbrev pub IsKindOf : List ℕ → TypeTable → ReprData → AlternativeData → ActionKindData → Option Action → Type 0
IsKindOf prefix types type a kind (Some lookahead_code) = kind ≡ lookaround Lookahead
IsKindOf prefix types type a kind (Some lookbehind_code) = kind ≡ lookaround Lookbehind
IsKindOf prefix types type a kind (Some (user_code c)) = IsCodeOf prefix types type a kind
IsKindOf prefix types type a kind (Some (fallible_code c)) = IsCodeOf prefix types type a kind
IsKindOf prefix types type a kind None = IsCodeOf prefix types type a kind

-- the action answers its nonterminal's type, and may fail exactly if its action code was written as one that may
pub record IsActionOf (prefix : List ℕ) (types : TypeTable) (c : OwnedAlternative) (d : ActionData) : Type 0 where
  pub answers : type_of c.0 types ≡ Some d.ret_type
  pub fallible : d.fallible ≡ is_fallible c.1.action
  pub kind : IsKindOf prefix types d.ret_type c.1 d.kind c.1.action

-- ---- nonterminals

-- the productions of a name: of the alternatives that have it, in order, each with its number
abbrev pub productions_named : NonterminalString → List OwnedAlternative → List ProductionData
productions_named n clauses =
    map (λ e. production_of n e.0 e.1.1) (filter (λ e. bytes_eq n.0 e.1.0.0) (enumerate_from 0 clauses))

-- a start symbol has its rule's visibility and span, and no attributes
abbrev pub start_entry_of : List ℕ → List OwnedAlternative → RuleData → NonterminalString × EntryData
start_entry_of prefix clauses r =
    let n = start_name prefix r.name in (
      n,
      record {
        visibility = r.visibility;
        span = r.span;
        attributes = no_attributes;
        productions = productions_named n clauses;
      },
    )

abbrev pub rule_entry_of : List OwnedAlternative → RuleData → NonterminalString × EntryData
rule_entry_of clauses r = (
  r.name,
  record {
    visibility = r.visibility;
    span = r.span;
    attributes = r.attributes;
    productions = productions_named r.name clauses;
  },
)

-- the start symbols of public rules, and the rules
abbrev pub lowered_entries : List ℕ → List RuleData → List (NonterminalString × EntryData)
lowered_entries prefix rules =
    let clauses = alternatives_in_order prefix rules in
    map (start_entry_of prefix clauses) (public_rules_in rules) ++ map (rule_entry_of clauses) rules

-- ---- tables

-- the table has what the rows say of each name and nothing else, in the order of names
pub record IsNameTable {V : Type 0} (rows table : List (NonterminalString × V)) : Type 0 where
  pub holds : (n : NonterminalString) → found n table ≡ found n rows
  pub in_order : IsStrictlySortedBy name_cmp (keys_of table)

-- of terminals, what the contract clause before says of nonterminals
pub record IsTerminalTable {V : Type 0} (rows table : List (TerminalString × V)) : Type 0 where
  pub holds : (t : TerminalString) → found_terminal t table ≡ found_terminal t rows
  pub in_order : IsStrictlySortedBy terminal_cmp (keys_of table)

-- the terminals with tokens in their order, then the error terminal where `!` occurs
abbrev pub terminals_to_number : GrammarData → List RuleData → List TerminalString
terminals_to_number g rules = keys_of (tokens_of g) ++ (if uses_recovery rules then terminal_string.Error ∷ [] else [])

-- each number is the index of its terminal, and there is no other
pub record AreNumbers (all : List TerminalString) (numbers : List (TerminalString × ℕ)) : Type 0 where
  pub places : (t : TerminalString) (i : ℕ) → (found_terminal t numbers ≡ Some i) ↔ (slice_get all i ≡ Some t)
  pub in_order : IsStrictlySortedBy terminal_cmp (keys_of numbers)

-- the start symbol of each public rule
abbrev pub starts_of : List ℕ → List RuleData → List (NonterminalString × NonterminalString)
starts_of prefix rules = map (λ r. (r.name, start_name prefix r.name)) (public_rules_in rules)

-- the rule of each start symbol
abbrev pub rules_of_starts : List ℕ → List RuleData → List (NonterminalString × NonterminalString)
rules_of_starts prefix rules = map (λ r. (start_name prefix r.name, r.name)) (public_rules_in rules)

-- each name keeps its type, and each start symbol has its rule's, in the order of names
pub record HasStartTypes (prefix : List ℕ) (rules : List RuleData) (types new : TypeTable) : Type 0 where
  pub names : (n : NonterminalString) → type_of n new
      ≡ or_else (type_of n types) (option_and_then (λ m. type_of m types) (found n (rules_of_starts prefix rules)))
  pub in_order : IsStrictlySortedBy name_cmp (keys_of new.nonterminals)
  pub rest : new ≡ record types { nonterminals = new.nonterminals }

-- ---- the whole

-- what the grammar with these rules is lowered to, where `table` has the types of its rules. Its conversions are all active
pub record IsLoweringOf (g : GrammarData) (rules : List RuleData) (table : TypeTable) (l : LoweredGrammar) : Type 0 where
  pub actions : AllZip (IsActionOf g.prefix l.types) (alternatives_in_order g.prefix rules) l.actions
  pub nonterminals : IsNameTable (lowered_entries g.prefix rules) l.nonterminals
  pub start_nonterminals : IsNameTable (starts_of g.prefix rules) l.start_nonterminals
  pub all_terminals : l.terminals.all ≡ terminals_to_number g rules
  pub terminal_numbers : AreNumbers l.terminals.all l.terminals.bits
  pub conversions : IsTerminalTable (tokens_of g) l.conversions
  pub types : HasStartTypes g.prefix rules table l.types
  pub prefix : l.prefix ≡ g.prefix
  pub lalr : l.algorithm.lalr ≡ asks_lalr g.attributes
  pub codegen : l.algorithm.codegen ≡ asked_code g.attributes
  pub uses_error_recovery : l.uses_error_recovery ≡ uses_recovery rules
  pub uses : l.uses ≡ filter_map use_of g.items
  pub type_parameters : l.type_parameters ≡ g.type_parameters
  pub parameters : l.parameters ≡ map lowered_parameter g.parameters
  pub where_clauses : l.where_clauses ≡ flat_map lowered_clauses g.where_clauses
  pub intern_token : l.intern_token ≡ first_of intern_token_of g.items
  pub module_attributes : l.module_attributes ≡ g.module_attributes
