-- Items and grammars as plain data: no pointer, no capacity.
use Rattle.std.specs.Prelude.{ℕ, List, Option, map, option_map, string_bytes}
use Rattle.lalrpop_norm_tree_names.specs.declared.names.Span.{Span}
use Rattle.lalrpop_norm_tree_names.specs.declared.names.NonterminalString.{NonterminalString}
use Rattle.lalrpop_norm_tree_names.specs.declared.names.TerminalString.{TerminalString}
use Rattle.lalrpop_norm_tree_names.specs.declared.names.TypeParameter.{TypeParameter}
use Rattle.lalrpop_norm_tree.specs.declared.items.ActionKind.{ActionKind}
use Rattle.lalrpop_norm_tree.specs.declared.items.ActionKind.TheVariants as action
use Rattle.lalrpop_norm_tree.specs.declared.items.Alternative.{Alternative}
use Rattle.lalrpop_norm_tree.specs.declared.items.AssociatedType.{AssociatedType}
use Rattle.lalrpop_norm_tree.specs.declared.items.Condition.{Condition}
use Rattle.lalrpop_norm_tree.specs.declared.items.Conversion.{Conversion}
use Rattle.lalrpop_norm_tree.specs.declared.items.EnumToken.{EnumToken}
use Rattle.lalrpop_norm_tree.specs.declared.items.ExternToken.{ExternToken}
use Rattle.lalrpop_norm_tree.specs.declared.items.Grammar.{Grammar}
use Rattle.lalrpop_norm_tree.specs.declared.items.GrammarItem.{GrammarItem}
use Rattle.lalrpop_norm_tree.specs.declared.items.GrammarItem.TheVariants as item
use Rattle.lalrpop_norm_tree.specs.declared.items.InternToken.{InternToken}
use Rattle.lalrpop_norm_tree.specs.declared.items.MatchContents.{MatchContents}
use Rattle.lalrpop_norm_tree.specs.declared.items.MatchEntry.{MatchEntry}
use Rattle.lalrpop_norm_tree.specs.declared.items.MatchItem.{MatchItem}
use Rattle.lalrpop_norm_tree.specs.declared.items.MatchToken.{MatchToken}
use Rattle.lalrpop_norm_tree.specs.declared.items.NonterminalData.{NonterminalData}
use Rattle.lalrpop_norm_tree.specs.declared.items.Visibility.{Visibility}
use Rattle.lalrpop_norm_tree.specs.declared.items.Visibility.TheVariants as visibility
use Rattle.lalrpop_norm_tree_parts.specs.Attributes.{Attributes, attributes_view}
use Rattle.lalrpop_norm_tree_parts.specs.Bounds.{WhereClauseData, where_clause_view}
use Rattle.lalrpop_norm_tree_parts.specs.Paths.{PathData, path_view}
use Rattle.lalrpop_norm_tree_patterns.specs.Patterns.{PatternData, pattern_view}
use Rattle.lalrpop_norm_tree.specs.Symbols.{Parts, expr_view}
use Rattle.lalrpop_norm_tree.specs.Types.{TypeData, type_view, ParameterData, parameter_view}

-- ---- rules

-- the action code of an alternative
pub data Action : Type 0 where
  user_code : List ℕ → Action
  fallible_code : List ℕ → Action
  lookahead_code : Action
  lookbehind_code : Action

abbrev pub action_view : ActionKind → Action
action_view (action.User s) = user_code (string_bytes s)
action_view (action.Fallible s) = fallible_code (string_bytes s)
action_view action.Lookahead = lookahead_code
action_view action.Lookbehind = lookbehind_code

pub record AlternativeData : Type 0 where
  pub span : Span
  pub parts : Parts
  pub condition : Option Condition
  pub action : Option Action
  pub attributes : Attributes

abbrev pub alternative_view : Alternative → AlternativeData
alternative_view a =
    record {
      span = a.span;
      parts = expr_view a.expr;
      condition = a.condition;
      action = option_map action_view a.action;
      attributes = attributes_view a.attributes.items;
    }

pub data VisibilityData : Type 0 where
  everywhere : Option PathData → VisibilityData
  within : PathData → VisibilityData
  private : VisibilityData

abbrev pub visibility_view : Visibility → VisibilityData
visibility_view (visibility.Pub p) = everywhere (option_map path_view p)
visibility_view (visibility.PubIn p) = within (path_view p)
visibility_view visibility.Priv = private

pub record RuleData : Type 0 where
  pub visibility : VisibilityData
  pub name : NonterminalString
  pub attributes : Attributes
  pub span : Span
  pub args : List NonterminalString
  pub type_decl : Option TypeData
  pub alternatives : List AlternativeData

abbrev pub rule_view : NonterminalData → RuleData
rule_view n =
    record {
      visibility = visibility_view n.visibility;
      name = n.name;
      attributes = attributes_view n.attributes.items;
      span = n.span;
      args = n.args.items;
      type_decl = option_map type_view n.type_decl;
      alternatives =
          map alternative_view n.alternatives.items;
    }

-- ---- tokens

pub record MatchTokenData : Type 0 where
  pub contents : List (List MatchItem)
  pub span : Span

abbrev pub match_contents_view : MatchContents → List MatchItem
match_contents_view c = c.items.items

abbrev pub match_token_view : MatchToken → MatchTokenData
match_token_view m = record { contents = map match_contents_view m.contents.items; span = m.span }

pub record InternTokenData : Type 0 where
  pub match_entries : List MatchEntry
  pub code : List ℕ

abbrev pub intern_token_view : InternToken → InternTokenData
intern_token_view t = record { match_entries = t.match_entries.items; code = t.dfa.code.items }

pub record AssociatedTypeData : Type 0 where
  pub type_span : Span
  pub type_name : List ℕ
  pub type_ref : TypeData

abbrev pub associated_type_view : AssociatedType → AssociatedTypeData
associated_type_view a = record { type_span = a.type_span; type_name = a.type_name; type_ref = type_view a.type_ref }

pub record ConversionData : Type 0 where
  pub span : Span
  pub attributes : Attributes
  pub from : TerminalString
  pub to : PatternData TypeData

abbrev pub conversion_view : Conversion → ConversionData
conversion_view c =
    record { span = c.span; attributes = attributes_view c.attributes.items; from = c.from; to = pattern_view type_view c.to }

pub record EnumTokenData : Type 0 where
  pub type_name : TypeData
  pub type_span : Span
  pub conversions : List ConversionData

abbrev pub enum_token_view : EnumToken → EnumTokenData
enum_token_view e =
    record { type_name = type_view e.type_name; type_span = e.type_span; conversions = map conversion_view e.conversions.items }

pub record ExternTokenData : Type 0 where
  pub span : Span
  pub associated_types : List AssociatedTypeData
  pub enum_token : Option EnumTokenData

abbrev pub extern_token_view : ExternToken → ExternTokenData
extern_token_view t =
    record {
      span = t.span;
      associated_types = map associated_type_view t.associated_types.items;
      enum_token = option_map enum_token_view t.enum_token;
    }

-- ---- grammars

pub data ItemData : Type 0 where
  match_item : MatchTokenData → ItemData
  extern_item : ExternTokenData → ItemData
  intern_item : InternTokenData → ItemData
  rule_item : RuleData → ItemData
  use_item : List ℕ → ItemData

abbrev pub item_view : GrammarItem → ItemData
item_view (item.MatchToken m) = match_item (match_token_view m)
item_view (item.ExternToken t) = extern_item (extern_token_view t)
item_view (item.InternToken t) = intern_item (intern_token_view t)
item_view (item.Nonterminal n) = rule_item (rule_view n)
item_view (item.Use s) = use_item (string_bytes s)

pub record GrammarData : Type 0 where
  pub prefix : List ℕ
  pub span : Span
  pub type_parameters : List TypeParameter
  pub parameters : List ParameterData
  pub where_clauses : List (WhereClauseData TypeData)
  pub items : List ItemData
  pub attributes : Attributes
  pub module_attributes : List (List ℕ)

abbrev pub grammar_view : Grammar → GrammarData
grammar_view g = record {
  prefix = string_bytes g.prefix;
  span = g.span;
  type_parameters = g.type_parameters.items;
  parameters = map parameter_view g.parameters.items;
  where_clauses = map (where_clause_view type_view) g.where_clauses.items;
  items = map item_view g.items.items;
  attributes = attributes_view g.attributes.items;
  module_attributes = map string_bytes g.module_attributes.items;
}
