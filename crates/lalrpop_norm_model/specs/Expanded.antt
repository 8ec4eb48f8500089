-- What the late passes ask of a grammar: that it is expanded, and that it is typed.
use Rattle.std.specs.Prelude.{◌≡◌, ℕ, ◌≤◌, ◌<◌, Bool, true, false, ◌&&◌, List, [], ◌∷◌, ◌++◌}
use Rattle.std.specs.Prelude.{length, map, flat_map, filter, Option, Some, None, IsSome, option_to_list}
use Rattle.lalrpop_norm_tree_names.specs.declared.names.TerminalString.{TerminalString}
use Rattle.lalrpop_norm_tree_names.specs.declared.names.TerminalString.TheVariants.{Literal, Bare, Error}
use Rattle.lalrpop_norm_tree_parts.specs.Accessors.{is_known_name}
use Rattle.lalrpop_norm_tree_parts.specs.Attributes.{AttributeData, Attributes, attribute, no_attributes, attribute_and}
use Rattle.lalrpop_norm_tree_parts.specs.Bounds.{WhereClauseData, lifetime_clause, type_clause}
pub use Rattle.lalrpop_norm_tree_parts.specs.MappedBounds.{types_in_parameter, types_in_bound}
use Rattle.lalrpop_norm_tree.specs.Items.{AlternativeData, RuleData, AssociatedTypeData, ConversionData, EnumTokenData}
use Rattle.lalrpop_norm_tree.specs.Items.{InternTokenData, MatchTokenData, ItemData, GrammarData, match_item, extern_item}
use Rattle.lalrpop_norm_tree.specs.Items.{intern_item}
use Rattle.lalrpop_norm_tree.specs.LoweredTypes.{holds_symbol}
use Rattle.lalrpop_norm_tree_parts.specs.Reprs.{ReprData}
use Rattle.lalrpop_norm_tree.specs.Symbols.{Kind, Part, Parts, terminal, nonterminal, error_terminal, no_parts, part_and}
use Rattle.lalrpop_norm_tree.specs.Types.{TypeData, TypesData, MaybeType, tuple, slice, nominal, reference, trait_object}
use Rattle.lalrpop_norm_tree.specs.Types.{of_lifetime, id, of_symbol, function, no_types, type_and, no_type, returns}
use Rattle.lalrpop_norm_tree.specs.Types.{ParameterData}
use Rattle.lalrpop_norm_theory.specs.Rounds.{In, IsDistinct}
use Rattle.lalrpop_norm_tree.specs.Traversal.{wrapped_kind, wrapped_part}
use Rattle.lalrpop_norm_model.specs.Features.{Features, is_active}
use Rattle.lalrpop_norm_model.specs.PlainRules.{all_rules}
use Rattle.lalrpop_norm_model.specs.Entries.{group_entries, user_names}
use Rattle.lalrpop_norm_model.specs.Terminals.{terminals_used}
use Rattle.lalrpop_norm_model.specs.TerminalTypes.{chosen_in_pattern, extern_enum, intern_entries}
use Rattle.lalrpop_norm_model.specs.TypeRelation.{IsRule}

-- ---- symbols of an expanded grammar (plain symbols), and the names in them

abbrev pub is_plain_terminal : TerminalString → Bool
is_plain_terminal (Literal l) = true
is_plain_terminal (Bare a) = true
is_plain_terminal Error = false

-- a terminal other than the error terminal, a nonterminal whose name passes the test, or `!`
abbrev pub is_plain_leaf : (List ℕ → Bool) → Kind → Bool
is_plain_leaf named_well (terminal t) = is_plain_terminal t
is_plain_leaf named_well (nonterminal n) = named_well n
is_plain_leaf named_well error_terminal = true
is_plain_leaf named_well _ = false

abbrev pub any_name : List ℕ → Bool
any_name n = true

-- a symbol of an expanded grammar (a plain one), under selected, named and tuple wrappers
abbrev pub is_plain_kind : Kind → Bool
is_plain_kind k = is_plain_leaf any_name (wrapped_kind k)

abbrev pub is_plain : Part → Bool
is_plain p = is_plain_leaf any_name (wrapped_part p)

abbrev pub are_plain : Parts → Bool
are_plain no_parts = true
are_plain (part_and p ps) = is_plain p && are_plain ps

abbrev pub leaf_names : Kind → List (List ℕ)
leaf_names (nonterminal n) = n ∷ []
leaf_names _ = []

-- the nonterminals in a plain symbol
abbrev pub names_in_kind : Kind → List (List ℕ)
names_in_kind k = leaf_names (wrapped_kind k)

abbrev pub names_in : Part → List (List ℕ)
names_in p = leaf_names (wrapped_part p)

abbrev pub names_in_parts : Parts → List (List ℕ)
names_in_parts no_parts = []
names_in_parts (part_and p ps) = names_in p ++ names_in_parts ps

-- ---- symbols in types

-- the symbols whose types are in a type
abbrev mutual
  pub symbols_in : TypeData → List Kind
  symbols_in (of_symbol k) = k ∷ []
  symbols_in (tuple ts) = symbols_in_all ts
  symbols_in (slice t) = symbols_in t
  symbols_in (nominal p ts) = symbols_in_all ts
  symbols_in (reference l m t) = symbols_in t
  symbols_in (trait_object p ts) = symbols_in_all ts
  symbols_in (of_lifetime l) = []
  symbols_in (id a) = []
  symbols_in (function fs p ts r) = symbols_in_all ts ++ symbols_in_return r

  pub symbols_in_all : TypesData → List Kind
  symbols_in_all no_types = []
  symbols_in_all (type_and t ts) = symbols_in t ++ symbols_in_all ts

  pub symbols_in_return : MaybeType → List Kind
  symbols_in_return no_type = []
  symbols_in_return (returns t) = symbols_in t

-- the symbols in the declared type of a rule, if it has one
abbrev pub declared_symbols : RuleData → List Kind
declared_symbols r = flat_map symbols_in (option_to_list r.type_decl)

-- ---- names

abbrev pub rule_names : GrammarData → List (List ℕ)
rule_names g = map (λ (r : RuleData). r.name.0) (all_rules g)

abbrev pub names_used_by : RuleData → List (List ℕ)
names_used_by r =
    flat_map (λ (a : AlternativeData). names_in_parts a.parts) r.alternatives ++ flat_map names_in_kind (declared_symbols r)

-- the nonterminals that alternatives and declared types use
abbrev pub names_used : GrammarData → List (List ℕ)
names_used g = flat_map names_used_by (all_rules g)

-- ---- tokens

abbrev pub enum_in : ItemData → List EnumTokenData
enum_in (extern_item t) = option_to_list t.enum_token
enum_in _ = []

abbrev pub match_in : ItemData → List MatchTokenData
match_in (match_item m) = m ∷ []
match_in _ = []

abbrev pub intern_in : ItemData → List InternTokenData
intern_in (intern_item t) = t ∷ []
intern_in _ = []

-- the extern enums, the match blocks and the internal tokens of a grammar
abbrev pub enums : GrammarData → List EnumTokenData
enums g = flat_map enum_in g.items

abbrev pub match_blocks : GrammarData → List MatchTokenData
match_blocks g = flat_map match_in g.items

abbrev pub interns : GrammarData → List InternTokenData
interns g = flat_map intern_in g.items

abbrev pub terminals_converted : List ConversionData → List TerminalString
terminals_converted cs = map (λ (c : ConversionData). c.from) cs

-- the terminals that conversions name
abbrev pub converted : GrammarData → List TerminalString
converted g = flat_map (λ (e : EnumTokenData). terminals_converted e.conversions) (enums g)

-- the terminals that mappings name, in match blocks and in entries
abbrev pub mapped_terminals : GrammarData → List TerminalString
mapped_terminals g =
    flat_map (λ (m : MatchTokenData). user_names (group_entries m.contents)) (match_blocks g)
    ++ flat_map (λ (t : InternTokenData). user_names t.match_entries) (interns g)

-- ---- types that are read without rules

abbrev pub types_in_clause : WhereClauseData TypeData → List TypeData
types_in_clause (lifetime_clause l ls) = []
types_in_clause (type_clause fs t bs) = t ∷ flat_map types_in_bound bs

abbrev pub types_in_enum : EnumTokenData → List TypeData
types_in_enum e = e.type_name ∷ flat_map (λ (c : ConversionData). chosen_in_pattern c.to) e.conversions

abbrev pub types_in_extern : ItemData → List TypeData
types_in_extern (extern_item t) =
    map (λ (a : AssociatedTypeData). a.type_ref) t.associated_types ++ flat_map types_in_enum (option_to_list t.enum_token)
types_in_extern _ = []

-- all types of a grammar but those that its rules declare
abbrev pub types_beside_rules : GrammarData → List TypeData
types_beside_rules g =
    map (λ (p : ParameterData). p.type) g.parameters ++ flat_map types_in_clause g.where_clauses
    ++ flat_map types_in_extern g.items

-- ---- attributes

abbrev pub is_known : AttributeData → Bool
is_known (attribute s n x) = is_known_name n

abbrev pub all_known : Attributes → Bool
all_known no_attributes = true
all_known (attribute_and a rest) = is_known a && all_known rest

-- ---- expanded

-- an alternative of a rule of the grammar
abbrev pub IsAlternative : GrammarData → AlternativeData → Type 0
IsAlternative g a = (r : RuleData) × IsRule g r × In a r.alternatives

-- a grammar that is expanded
pub record IsExpanded (g : GrammarData) : Type 0 where
  pub no_macros : (r : RuleData) → IsRule g r → r.args ≡ []
  pub no_conditions : (a : AlternativeData) → IsAlternative g a → a.condition ≡ None
  pub plain_symbols : (a : AlternativeData) → IsAlternative g a → are_plain a.parts ≡ true
  -- the names of rules are distinct, and each one used has a rule
  pub distinct_names : IsDistinct (rule_names g)
  pub names_have_rules : (n : List ℕ) → In n (names_used g) → In n (rule_names g)
  -- nothing names the error terminal
  pub no_error_converted : In Error (converted g) → ⊥
  pub no_error_mapped : In Error (mapped_terminals g) → ⊥
  -- beside an extern enum there is neither of the others, and there is at most one of each
  pub one_enum : length (enums g) ≤ 1
  pub one_match : length (match_blocks g) ≤ 1
  pub one_intern : length (interns g) ≤ 1
  pub enum_without_match : 0 < length (enums g) → match_blocks g ≡ []
  pub enum_without_intern : 0 < length (enums g) → interns g ≡ []
  -- only a declared type holds symbols, and these are plain
  pub symbols_declared_only : (t : TypeData) → In t (types_beside_rules g) → holds_symbol t ≡ false
  pub plain_in_types : (r : RuleData) (k : Kind) → IsRule g r → In k (declared_symbols r) → is_plain_kind k ≡ true
  pub known_attributes : all_known g.attributes ≡ true

-- ---- typed

abbrev pub terminals_with : Option EnumTokenData → Features → GrammarData → List TerminalString
terminals_with (Some e) fs g = terminals_converted (filter (λ (c : ConversionData). is_active fs c.attributes) e.conversions)
terminals_with None fs g = user_names (intern_entries g)

-- the terminals of a grammar: of the active conversions of its extern enum, or of its entries
abbrev pub terminals_of : Features → GrammarData → List TerminalString
terminals_of fs g = terminals_with (extern_enum g) fs g

-- a grammar that is typed by a table from names to types
pub record IsTyped (fs : Features) (g : GrammarData) (table : List ℕ → Option ReprData) : Type 0 where
  pub rules_typed : (r : RuleData) → IsRule g r → IsSome (table r.name.0)
  pub distinct_terminals : IsDistinct (terminals_of fs g)
  pub terminals_listed : (t : TerminalString) → In t (terminals_used g) → In t (terminals_of fs g)
