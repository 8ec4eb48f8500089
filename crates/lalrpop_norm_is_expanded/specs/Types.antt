-- Types outside of rules in which no symbol occurs, as tests.
use Rattle.std.specs.Prelude.{Bool, true, ◌&&◌, not, Option, Some, None}
use Rattle.std.specs.List.{list_all}
use Rattle.lalrpop_norm_tree_parts.specs.Bounds.{BoundParameterData, lifetime_parameter, type_parameter, associated_type}
use Rattle.lalrpop_norm_tree_parts.specs.Bounds.{BoundData, lifetime_bound, function_bound, trait_bound}
use Rattle.lalrpop_norm_tree_parts.specs.Bounds.{WhereClauseData, lifetime_clause, type_clause}
use Rattle.lalrpop_norm_tree_patterns.specs.Patterns.{PatternKindData, enumerated, structured, path, tuple, tuple_struct, number}
use Rattle.lalrpop_norm_tree_patterns.specs.Patterns.{underscore, dot_dot, chosen, character, text, PatternData, pattern_at}
use Rattle.lalrpop_norm_tree_patterns.specs.Patterns.{Patterns, no_patterns, pattern_and, Fields, no_fields, field_and}
use Rattle.lalrpop_norm_tree.specs.Items.{AssociatedTypeData, ConversionData, EnumTokenData, ItemData, extern_item, GrammarData}
use Rattle.lalrpop_norm_tree.specs.LoweredTypes.{holds_symbol}
use Rattle.lalrpop_norm_tree.specs.Types.{TypeData, ParameterData}

abbrev pub lacks_symbol : TypeData → Bool
lacks_symbol t = not (holds_symbol t)

abbrev pub parameter_lacks_symbol : ParameterData → Bool
parameter_lacks_symbol p = lacks_symbol p.type

-- ---- `where` clauses

abbrev pub return_lacks_symbol : Option TypeData → Bool
return_lacks_symbol None = true
return_lacks_symbol (Some t) = lacks_symbol t

abbrev pub bound_parameter_lacks_symbol : BoundParameterData TypeData → Bool
bound_parameter_lacks_symbol (lifetime_parameter l) = true
bound_parameter_lacks_symbol (type_parameter t) = lacks_symbol t
bound_parameter_lacks_symbol (associated_type a t) = lacks_symbol t

abbrev pub bound_lacks_symbol : BoundData TypeData → Bool
bound_lacks_symbol (lifetime_bound l) = true
bound_lacks_symbol (function_bound fs p ts r) = list_all lacks_symbol ts && return_lacks_symbol r
bound_lacks_symbol (trait_bound fs p ps) = list_all bound_parameter_lacks_symbol ps

abbrev pub clause_lacks_symbol : WhereClauseData TypeData → Bool
clause_lacks_symbol (lifetime_clause l ls) = true
clause_lacks_symbol (type_clause fs t bs) = lacks_symbol t && list_all bound_lacks_symbol bs

-- ---- extern blocks

abbrev mutual
  pub pattern_kind_lacks_symbol : PatternKindData TypeData → Bool
  pattern_kind_lacks_symbol (chosen t) = lacks_symbol t
  pattern_kind_lacks_symbol (enumerated p ps) = patterns_lack_symbol ps
  pattern_kind_lacks_symbol (structured p fs rest) = fields_lack_symbol fs
  pattern_kind_lacks_symbol (tuple ps) = patterns_lack_symbol ps
  pattern_kind_lacks_symbol (tuple_struct p ps) = patterns_lack_symbol ps
  pattern_kind_lacks_symbol (path p) = true
  pattern_kind_lacks_symbol (number n) = true
  pattern_kind_lacks_symbol underscore = true
  pattern_kind_lacks_symbol dot_dot = true
  pattern_kind_lacks_symbol (character a) = true
  pattern_kind_lacks_symbol (text a) = true

  pub pattern_lacks_symbol : PatternData TypeData → Bool
  pattern_lacks_symbol (pattern_at s k) = pattern_kind_lacks_symbol k

  pub patterns_lack_symbol : Patterns TypeData → Bool
  patterns_lack_symbol no_patterns = true
  patterns_lack_symbol (pattern_and p ps) = pattern_lacks_symbol p && patterns_lack_symbol ps

  pub fields_lack_symbol : Fields TypeData → Bool
  fields_lack_symbol no_fields = true
  fields_lack_symbol (field_and s n p fs) = pattern_lacks_symbol p && fields_lack_symbol fs

abbrev pub conversion_lacks_symbol : ConversionData → Bool
conversion_lacks_symbol c = pattern_lacks_symbol c.to

abbrev pub enum_lacks_symbol : Option EnumTokenData → Bool
enum_lacks_symbol None = true
enum_lacks_symbol (Some e) = lacks_symbol e.type_name && list_all conversion_lacks_symbol e.conversions

abbrev pub associated_lacks_symbol : AssociatedTypeData → Bool
associated_lacks_symbol a = lacks_symbol a.type_ref

abbrev pub item_lacks_symbol : ItemData → Bool
item_lacks_symbol (extern_item t) = list_all associated_lacks_symbol t.associated_types && enum_lacks_symbol t.enum_token
item_lacks_symbol _ = true

-- ---- the whole

abbrev pub is_free_of_symbols : GrammarData → Bool
is_free_of_symbols g =
    list_all parameter_lacks_symbol g.parameters && list_all clause_lacks_symbol g.where_clauses
    && list_all item_lacks_symbol g.items
