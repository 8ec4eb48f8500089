-- The forms of where clauses and of patterns of tokens have their keys in order.
use Rattle.std.proofs.Common.{refl}
use Rattle.lalrpop_norm_tree_parts.specs.Reprs.{ReprData, LoweredClause, for_all, has_bound}
use Rattle.lalrpop_norm_tree_parts.specs.Bounds.{BoundParameterData, lifetime_parameter, type_parameter, associated_type, BoundData}
use Rattle.lalrpop_norm_tree_parts.specs.Bounds.{lifetime_bound, function_bound, trait_bound}
use Rattle.lalrpop_norm_tree_patterns.specs.Patterns as pattern
use Rattle.lalrpop_norm_tree_patterns.specs.Patterns.{PatternKindData, PatternData, pattern_at, Patterns, no_patterns, pattern_and}
use Rattle.lalrpop_norm_tree_patterns.specs.Patterns.{Fields, no_fields, field_and}
use Rattle.lalrpop_norm_lowered_json.specs.LoweredForms.{repr_form, lowered_bound_parameter_form, lowered_bound_form, lowered_clause_form}
use Rattle.lalrpop_norm_lowered_json.specs.LoweredForms.{lowered_pattern_kind_form, lowered_pattern_form, lowered_patterns_form}
use Rattle.lalrpop_norm_lowered_json.specs.LoweredForms.{lowered_fields_form}
use Rattle.lalrpop_norm_lowered_json.proofs.Ordered.{◌&◌, IsOrdered, ItemsAreOrdered}
use Rattle.lalrpop_norm_lowered_json.proofs.OrderedNames.{list_ordered, maybe_ordered, span_ordered, parameters_ordered, path_ordered}
use Rattle.lalrpop_norm_lowered_json.proofs.OrderedNames.{repr_ordered}

-- ---- where clauses

bound_parameter_ordered : (p : BoundParameterData ReprData) → IsOrdered (lowered_bound_parameter_form p)
bound_parameter_ordered (lifetime_parameter l) = refl & tt & tt
bound_parameter_ordered (type_parameter t) = refl & repr_ordered t & tt
bound_parameter_ordered (associated_type a t) = refl & (tt & repr_ordered t & tt) & tt

bound_ordered : (b : BoundData ReprData) → IsOrdered (lowered_bound_form b)
bound_ordered (lifetime_bound l) = refl & tt & tt
bound_ordered (function_bound fs p ts r) =
    let types = list_ordered repr_form repr_ordered ts in
    let result = maybe_ordered repr_form repr_ordered r in
    refl & (refl & parameters_ordered fs & types & path_ordered p & result & tt) & tt
bound_ordered (trait_bound fs p ps) =
    let parameters = list_ordered lowered_bound_parameter_form bound_parameter_ordered ps in
    refl & (refl & parameters_ordered fs & parameters & path_ordered p & tt) & tt

pub clause_ordered : (c : LoweredClause) → IsOrdered (lowered_clause_form c)
clause_ordered (for_all fs c) = refl & (refl & parameters_ordered fs & clause_ordered c & tt) & tt
clause_ordered (has_bound t b) = refl & (refl & bound_ordered b & repr_ordered t & tt) & tt

-- ---- patterns of tokens

mutual
  pattern_kind_ordered : (k : PatternKindData ReprData) → IsOrdered (lowered_pattern_kind_form k)
  pattern_kind_ordered (pattern.enumerated p ps) = refl & (path_ordered p & patterns_ordered ps & tt) & tt
  pattern_kind_ordered (pattern.structured p fs rest) = refl & (path_ordered p & fields_ordered fs & tt & tt) & tt
  pattern_kind_ordered (pattern.path p) = refl & path_ordered p & tt
  pattern_kind_ordered (pattern.tuple ps) = refl & patterns_ordered ps & tt
  pattern_kind_ordered (pattern.tuple_struct p ps) = refl & (path_ordered p & patterns_ordered ps & tt) & tt
  pattern_kind_ordered (pattern.number n) = refl & tt & tt
  pattern_kind_ordered pattern.underscore = tt
  pattern_kind_ordered pattern.dot_dot = tt
  pattern_kind_ordered (pattern.chosen t) = refl & repr_ordered t & tt
  pattern_kind_ordered (pattern.character a) = refl & tt & tt
  pattern_kind_ordered (pattern.text a) = refl & tt & tt

  pub pattern_ordered : (p : PatternData ReprData) → IsOrdered (lowered_pattern_form p)
  pattern_ordered (pattern_at s k) = refl & pattern_kind_ordered k & span_ordered s & tt

  patterns_ordered : (ps : Patterns ReprData) → ItemsAreOrdered (lowered_patterns_form ps)
  patterns_ordered no_patterns = tt
  patterns_ordered (pattern_and p ps) = pattern_ordered p & patterns_ordered ps

  fields_ordered : (fs : Fields ReprData) → ItemsAreOrdered (lowered_fields_form fs)
  fields_ordered no_fields = tt
  fields_ordered (field_and s a p fs) = (refl & tt & span_ordered s & pattern_ordered p & tt) & fields_ordered fs
