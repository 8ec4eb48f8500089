-- F23: written types that hold the type of a symbol.
use Rattle.std.specs.Prelude.{Bool, false, ◌||◌, Option, Some, None}
use Rattle.std.specs.List.{list_any}
use Rattle.lalrpop_norm_tree.specs.Types.{TypeData}
use Rattle.lalrpop_norm_tree.specs.LoweredTypes.{holds_symbol}
use Rattle.lalrpop_norm_tree_parts.specs.Bounds.{BoundParameterData, lifetime_parameter, type_parameter, associated_type, BoundData}
use Rattle.lalrpop_norm_tree_parts.specs.Bounds.{lifetime_bound, function_bound, trait_bound, WhereClauseData, lifetime_clause}
use Rattle.lalrpop_norm_tree_parts.specs.Bounds.{type_clause}
use Rattle.lalrpop_norm_tree_patterns.specs.Patterns.{PatternKindData, enumerated, structured, path, tuple, tuple_struct, number}
use Rattle.lalrpop_norm_tree_patterns.specs.Patterns.{underscore, dot_dot, chosen, character, text, PatternData, pattern_at, Patterns}
use Rattle.lalrpop_norm_tree_patterns.specs.Patterns.{no_patterns, pattern_and, Fields, no_fields, field_and}

abbrev pub some_holds : Option TypeData → Bool
some_holds None = false
some_holds (Some t) = holds_symbol t

abbrev pub parameter_holds : BoundParameterData TypeData → Bool
parameter_holds (lifetime_parameter l) = false
parameter_holds (type_parameter t) = holds_symbol t
parameter_holds (associated_type a t) = holds_symbol t

abbrev pub bound_holds : BoundData TypeData → Bool
bound_holds (lifetime_bound l) = false
bound_holds (function_bound fs p ts r) = list_any holds_symbol ts || some_holds r
bound_holds (trait_bound fs p ps) = list_any parameter_holds ps

abbrev pub clause_holds : WhereClauseData TypeData → Bool
clause_holds (lifetime_clause l ls) = false
clause_holds (type_clause fs t bs) = holds_symbol t || list_any bound_holds bs

abbrev mutual
  pub kind_holds : PatternKindData TypeData → Bool
  kind_holds (enumerated p ps) = patterns_hold ps
  kind_holds (structured p fs b) = fields_hold fs
  kind_holds (path p) = false
  kind_holds (tuple ps) = patterns_hold ps
  kind_holds (tuple_struct p ps) = patterns_hold ps
  kind_holds (number n) = false
  kind_holds underscore = false
  kind_holds dot_dot = false
  kind_holds (chosen t) = holds_symbol t
  kind_holds (character a) = false
  kind_holds (text a) = false

  pub pattern_holds : PatternData TypeData → Bool
  pattern_holds (pattern_at s k) = kind_holds k

  pub patterns_hold : Patterns TypeData → Bool
  patterns_hold no_patterns = false
  patterns_hold (pattern_and p ps) = pattern_holds p || patterns_hold ps

  pub fields_hold : Fields TypeData → Bool
  fields_hold no_fields = false
  fields_hold (field_and s n p fs) = pattern_holds p || fields_hold fs
