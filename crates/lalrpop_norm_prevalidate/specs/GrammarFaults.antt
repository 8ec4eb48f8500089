-- The faults of a grammar that need no names, in visiting order. Disabled parts count like all others.
use Rattle.std.specs.Prelude.{ℕ, Bool, true, false, ◌||◌, ◌&&◌, not, List, [], ◌∷◌, ◌++◌, map, flat_map}
use Rattle.std.specs.Prelude.{Option, Some, None, is_some, is_none, bytes_eq, codes, if◌then◌else◌}
use Rattle.std.specs.List.{list_any}
use Rattle.lalrpop_norm_tree_names.specs.declared.names.Span.{Span}
use Rattle.lalrpop_norm_tree.specs.declared.items.MatchItem.{MatchItem}
use Rattle.lalrpop_norm_tree.specs.declared.items.MatchItem.TheVariants.{CatchAll, Unmapped, Mapped}
use Rattle.lalrpop_norm_tree.specs.declared.items.MatchMapping.TheVariants as mapping
use Rattle.lalrpop_norm_tree_parts.specs.Accessors.{is_known_name}
use Rattle.lalrpop_norm_tree.specs.Accessors.{or_else, first_of, is_public, is_macro, extern_token_of, match_token_of, type_named}
use Rattle.lalrpop_norm_tree_parts.specs.Attributes.{AttributeData, Attributes, attribute, no_attributes, attribute_and}
use Rattle.lalrpop_norm_tree_parts.specs.Bounds.{WhereClauseData}
use Rattle.lalrpop_norm_tree.specs.Items.{RuleData, MatchTokenData, AssociatedTypeData, ConversionData, EnumTokenData}
use Rattle.lalrpop_norm_tree.specs.Items.{ExternTokenData, ItemData, GrammarData, match_item, extern_item, intern_item, rule_item}
use Rattle.lalrpop_norm_tree.specs.Items.{use_item}
use Rattle.lalrpop_norm_tree.specs.LoweredTypes.{holds_symbol}
use Rattle.lalrpop_norm_tree.specs.Types.{TypeData, ParameterData}
use Rattle.lalrpop_norm_faults.specs.declared.kind.FaultKind.TheVariants.{GrammarAttribute, SecondMatch, MatchWithExtern}
use Rattle.lalrpop_norm_faults.specs.declared.kind.FaultKind.TheVariants.{SecondExtern, UnknownAssociatedType}
use Rattle.lalrpop_norm_faults.specs.declared.kind.FaultKind.TheVariants.{RepeatedAssociatedType, PublicMacro}
use Rattle.lalrpop_norm_faults.specs.declared.kind.FaultKind.TheVariants.{UnknownRuleAttribute, RepeatedRuleAttribute}
use Rattle.lalrpop_norm_faults.specs.declared.kind.FaultKind.TheVariants.{InlineOnPublic, WrittenIntern, WrittenOfSymbol}
use Rattle.lalrpop_norm_faults.specs.Faults.{Fault, fault_if}
use Rattle.lalrpop_norm_model.specs.Features.{is_one_of}
use Rattle.lalrpop_norm_model.specs.TokenFaults.{each_after}
use Rattle.lalrpop_norm_prevalidate.specs.declared.prevalidate.Surroundings.{Surroundings}
use Rattle.lalrpop_norm_prevalidate.specs.declared.prevalidate.Blocks.{Blocks}
use Rattle.lalrpop_norm_prevalidate.specs.SymbolFaults.{terminal_faults}
use Rattle.lalrpop_norm_prevalidate.specs.AlternativeFaults.{alternative_faults}
use Rattle.lalrpop_norm_prevalidate_attributes.specs.CfgFaults.{cfg_faults, all_cfg_faults}
use Rattle.lalrpop_norm_precedence_steps.specs.LevelFaults.{level_faults}
use Rattle.lalrpop_norm_prevalidate.specs.TypeFaults.{some_holds, clause_holds, pattern_holds}

-- ---- rules

abbrev pub is_known_on_rule : List ℕ → Bool
is_known_on_rule name = bytes_eq name (codes "inline") || bytes_eq name (codes "cfg")

-- one attribute of a rule, after those of some names: F8, F9, F10, F11
unfoldable pub rule_attribute_faults : Bool → List (List ℕ) → AttributeData → List Fault
rule_attribute_faults public before (attribute s name x) =
    fault_if (not (is_known_on_rule name)) (UnknownRuleAttribute, s)
    ++ (fault_if (is_one_of name before) (RepeatedRuleAttribute, s)
    ++ (fault_if (bytes_eq name (codes "inline") && public) (InlineOnPublic, s)
    ++ (if bytes_eq name (codes "cfg") then cfg_faults s x else [])))

abbrev pub attribute_name : AttributeData → List ℕ
attribute_name (attribute s name x) = name

abbrev pub attribute_list : Attributes → List AttributeData
attribute_list no_attributes = []
attribute_list (attribute_and a rest) = a ∷ attribute_list rest

-- each attribute after those before it
abbrev pub attributes_faults : Bool → Attributes → List Fault
attributes_faults public xs =
    each_after (λ before a. rule_attribute_faults public (map attribute_name before) a) [] (attribute_list xs)

-- F7, F23, then attributes, levels, alternatives
unfoldable pub rule_faults : Surroundings → RuleData → List Fault
rule_faults c r =
    fault_if (is_public r.visibility && is_macro r) (PublicMacro, r.span)
    ++ (fault_if (some_holds r.type_decl) (WrittenOfSymbol, r.span)
    ++ (attributes_faults (is_public r.visibility) r.attributes
    ++ (level_faults r ++ flat_map (alternative_faults c) r.alternatives)))

-- ---- tokens

-- F22
abbrev pub mapping_faults : MatchItem → List Fault
mapping_faults (Mapped l (mapping.Terminal t) s) = terminal_faults s t
mapping_faults (Mapped l mapping.Skip s) = []
mapping_faults (Unmapped l s) = []
mapping_faults (CatchAll s) = []

-- F3 at the other block
abbrev pub match_beside_extern_faults : Option Span → List Fault
match_beside_extern_faults None = []
match_beside_extern_faults (Some s) = (MatchWithExtern, s) ∷ []

-- a match block, after another one or not: F2, F3, mappings
unfoldable pub match_faults : Blocks → Bool → MatchTokenData → List Fault
match_faults b seen m =
    fault_if seen (SecondMatch, m.span)
    ++ (match_beside_extern_faults b.first_enum ++ flat_map (flat_map mapping_faults) m.contents)

abbrev pub is_known_type : List ℕ → Bool
is_known_type name = bytes_eq name (codes "Location") || bytes_eq name (codes "Error")

-- one associated type, after those of some names: F5, F6, F23
unfoldable pub associated_faults : List (List ℕ) → AssociatedTypeData → List Fault
associated_faults before t =
    fault_if (not (is_known_type t.type_name)) (UnknownAssociatedType, t.type_span)
    ++ (fault_if (is_one_of t.type_name before) (RepeatedAssociatedType, t.type_span)
    ++ fault_if (holds_symbol t.type_ref) (WrittenOfSymbol, t.type_span))

-- each associated type after those before it
abbrev pub types_faults : List AssociatedTypeData → List Fault
types_faults ts =
    each_after (λ (before : List AssociatedTypeData) t. associated_faults
    (map (λ (b : AssociatedTypeData). b.type_name) before) t) [] ts

-- F22, F23, then each `cfg`: F11
unfoldable pub conversion_faults : ConversionData → List Fault
conversion_faults c =
    terminal_faults c.span c.from ++ (fault_if (pattern_holds c.to) (WrittenOfSymbol, c.span) ++ all_cfg_faults c.attributes)

abbrev pub enum_faults : Option EnumTokenData → List Fault
enum_faults None = []
enum_faults (Some e) =
    fault_if (holds_symbol e.type_name) (WrittenOfSymbol, e.type_span) ++ flat_map conversion_faults e.conversions

-- an extern block, after another one or not: F4, F3 if it has an enum, associated types, enum
unfoldable pub extern_faults : Blocks → Bool → ExternTokenData → List Fault
extern_faults b seen t =
    fault_if seen (SecondExtern, t.span)
    ++ ((if is_some t.enum_token then match_beside_extern_faults b.first_match else [])
    ++ (types_faults t.associated_types ++ enum_faults t.enum_token))

-- ---- items

abbrev pub is_match : ItemData → Bool
is_match i = is_some (match_token_of i)

abbrev pub is_extern : ItemData → Bool
is_extern i = is_some (extern_token_of i)

-- an item, after a match block and an extern block or not
unfoldable pub item_faults : Surroundings → Blocks → Span → Bool → Bool → ItemData → List Fault
item_faults c b s m e (match_item t) = match_faults b m t
item_faults c b s m e (extern_item t) = extern_faults b e t
item_faults c b s m e (intern_item t) = (WrittenIntern, s) ∷ []
item_faults c b s m e (rule_item r) = rule_faults c r
item_faults c b s m e (use_item u) = []

-- each item by the blocks before it
abbrev pub items_faults : Surroundings → Blocks → Span → List ItemData → List Fault
items_faults c b s is = each_after (λ before i. item_faults c b s (list_any is_match before) (list_any is_extern before) i) [] is

-- ---- what the first blocks and the grammar's attributes say

-- whether an attribute asks for a parser by recursive ascent, if it asks for one at all
abbrev pub ascent_named : List ℕ → Option Bool
ascent_named name =
    if bytes_eq name (codes "table_driven") then Some false else
    (if bytes_eq name (codes "recursive_ascent") || bytes_eq name (codes "test_all") then Some true else None)

-- the last attribute counts
abbrev pub ascent_asked : Attributes → Option Bool
ascent_asked no_attributes = None
ascent_asked (attribute_and (attribute s name x) rest) = or_else (ascent_asked rest) (ascent_named name)

abbrev pub is_asked : Option Bool → Bool
is_asked None = false
is_asked (Some b) = b

-- an enum, and no `Location`
abbrev pub lacks_location : Option ExternTokenData → Bool
lacks_location None = false
lacks_location (Some t) = is_some t.enum_token && is_none (first_of (type_named (codes "Location")) t.associated_types)

abbrev pub surroundings_of : GrammarData → Surroundings
surroundings_of g =
    record {
      has_ascent = is_asked (ascent_asked g.attributes);
      lacks_location = lacks_location (first_of extern_token_of g.items);
    }

abbrev pub match_span : Option MatchTokenData → Option Span
match_span None = None
match_span (Some m) = Some m.span

-- the span of the block, if it has an enum
abbrev pub enum_span : Option ExternTokenData → Option Span
enum_span None = None
enum_span (Some t) = if is_some t.enum_token then Some t.span else None

abbrev pub blocks_in : GrammarData → Blocks
blocks_in g =
    record {
      first_match = match_span (first_of match_token_of g.items);
      first_enum = enum_span (first_of extern_token_of g.items);
    }

-- ---- the grammar

-- F1
abbrev pub unknown_grammar_faults : Attributes → List Fault
unknown_grammar_faults no_attributes = []
unknown_grammar_faults (attribute_and (attribute s name x) rest) =
    fault_if (not (is_known_name name)) (GrammarAttribute, s) ++ unknown_grammar_faults rest

-- F23 at the grammar
abbrev pub parameter_faults : Span → ParameterData → List Fault
parameter_faults s p = fault_if (holds_symbol p.type) (WrittenOfSymbol, s)

abbrev pub clause_faults : Span → WhereClauseData TypeData → List Fault
clause_faults s w = fault_if (clause_holds w) (WrittenOfSymbol, s)

abbrev pub validate_faults : GrammarData → List Fault
validate_faults g =
    unknown_grammar_faults g.attributes
    ++ (flat_map (parameter_faults g.span) g.parameters
    ++ (flat_map (clause_faults g.span) g.where_clauses
    ++ items_faults (surroundings_of g) (blocks_in g) g.span g.items))
