-- The JSON forms of lowered types, where clauses and patterns.
use Rattle.std.specs.Prelude.{[], ◌∷◌, codes}
use Rattle.serde_json.specs.Data.{Data, null, boolean, string, array, Items, no_items, item}
use Rattle.lalrpop_norm_tree_parts.specs.Paths.{PathData}
use Rattle.lalrpop_norm_tree_parts.specs.Reprs.{ReprData, tuple, slice, nominal, associated, of_lifetime, reference}
use Rattle.lalrpop_norm_tree_parts.specs.Reprs.{trait_object, function, Reprs, no_reprs, repr_and, MaybeRepr, no_repr, returns}
use Rattle.lalrpop_norm_tree_parts.specs.Reprs.{LoweredClause, for_all, has_bound}
use Rattle.lalrpop_norm_tree_parts.specs.Bounds.{BoundParameterData, lifetime_parameter, type_parameter, associated_type, BoundData}
use Rattle.lalrpop_norm_tree_parts.specs.Bounds.{lifetime_bound, function_bound, trait_bound}
use Rattle.lalrpop_norm_tree_patterns.specs.Patterns as pattern
use Rattle.lalrpop_norm_tree_patterns.specs.Patterns.{PatternKindData, PatternData, pattern_at, Patterns, no_patterns, pattern_and}
use Rattle.lalrpop_norm_tree_patterns.specs.Patterns.{Fields, no_fields, field_and, FieldData}
use Rattle.lalrpop_norm_json.specs.Json.{fields, variant, row, natural, maybe_form, list_form}
use Rattle.lalrpop_norm_json.specs.Forms.{span_form, lifetime_form, type_parameter_form, path_form}

-- a path with its arguments
abbrev pub applied_form : PathData → Items → Data
applied_form p ts = fields ((codes "path", path_form p) ∷ (codes "types", array ts) ∷ [])

abbrev mutual
  pub repr_form : ReprData → Data
  repr_form (tuple ts) = variant (codes "Tuple") (array (reprs_form ts))
  repr_form (slice t) = variant (codes "Slice") (repr_form t)
  repr_form (nominal p ts) = variant (codes "Nominal") (applied_form p (reprs_form ts))
  repr_form (associated p a) =
      variant (codes "Associated") (fields ((codes "id", string a) ∷ (codes "type_parameter", string p) ∷ []))
  repr_form (of_lifetime l) = variant (codes "Lifetime") (lifetime_form l)
  repr_form (reference l m t) =
      variant (codes "Ref") (fields ((codes "lifetime", maybe_form lifetime_form l) ∷ (codes "mutable", boolean m)
      ∷ (codes "referent", repr_form t) ∷ []))
  repr_form (trait_object p ts) = variant (codes "TraitObject") (applied_form p (reprs_form ts))
  repr_form (function fs p ts r) =
      variant (codes "Fn") (fields ((codes "forall", list_form type_parameter_form fs) ∷ (codes "parameters", array (reprs_form ts))
      ∷ (codes "path", path_form p) ∷ (codes "ret", maybe_repr_form r) ∷ []))

  pub reprs_form : Reprs → Items
  reprs_form no_reprs = no_items
  reprs_form (repr_and t ts) = item (repr_form t) (reprs_form ts)

  pub maybe_repr_form : MaybeRepr → Data
  maybe_repr_form no_repr = null
  maybe_repr_form (returns t) = repr_form t

-- ---- where clauses

abbrev pub lowered_bound_parameter_form : BoundParameterData ReprData → Data
lowered_bound_parameter_form (lifetime_parameter l) = variant (codes "Lifetime") (lifetime_form l)
lowered_bound_parameter_form (type_parameter t) = variant (codes "TypeParameter") (repr_form t)
lowered_bound_parameter_form (associated_type a t) = variant (codes "Associated") (row (string a ∷ repr_form t ∷ []))

abbrev pub lowered_bound_form : BoundData ReprData → Data
lowered_bound_form (lifetime_bound l) = variant (codes "Lifetime") (lifetime_form l)
lowered_bound_form (function_bound fs p ts r) = variant (codes "Fn")
    (fields ((codes "forall", list_form type_parameter_form fs) ∷ (codes "parameters", list_form repr_form ts)
    ∷ (codes "path", path_form p) ∷ (codes "ret", maybe_form repr_form r) ∷ []))
lowered_bound_form (trait_bound fs p ps) = variant (codes "Trait")
    (fields ((codes "forall", list_form type_parameter_form fs) ∷ (codes "parameters", list_form lowered_bound_parameter_form ps)
    ∷ (codes "path", path_form p) ∷ []))

abbrev pub lowered_clause_form : LoweredClause → Data
lowered_clause_form (for_all fs c) = variant (codes "Forall")
    (fields ((codes "binder", list_form type_parameter_form fs) ∷ (codes "clause", lowered_clause_form c) ∷ []))
lowered_clause_form (has_bound t b) = variant (codes "Bound")
    (fields ((codes "bound", lowered_bound_form b) ∷ (codes "subject", repr_form t) ∷ []))

-- ---- patterns of tokens

abbrev mutual
  pub lowered_pattern_kind_form : PatternKindData ReprData → Data
  lowered_pattern_kind_form (pattern.enumerated p ps) = variant (codes "Enum") (row (path_form p ∷ array (lowered_patterns_form ps) ∷ []))
  lowered_pattern_kind_form (pattern.structured p fs rest) =
      variant (codes "Struct") (row (path_form p ∷ array (lowered_fields_form fs) ∷ boolean rest ∷ []))
  lowered_pattern_kind_form (pattern.path p) = variant (codes "Path") (path_form p)
  lowered_pattern_kind_form (pattern.tuple ps) = variant (codes "Tuple") (array (lowered_patterns_form ps))
  lowered_pattern_kind_form (pattern.tuple_struct p ps) =
      variant (codes "TupleStruct") (row (path_form p ∷ array (lowered_patterns_form ps) ∷ []))
  lowered_pattern_kind_form (pattern.number n) = variant (codes "Usize") (natural n)
  lowered_pattern_kind_form pattern.underscore = string (codes "Underscore")
  lowered_pattern_kind_form pattern.dot_dot = string (codes "DotDot")
  lowered_pattern_kind_form (pattern.chosen t) = variant (codes "Choose") (repr_form t)
  lowered_pattern_kind_form (pattern.character a) = variant (codes "CharLiteral") (string a)
  lowered_pattern_kind_form (pattern.text a) = variant (codes "String") (string a)

  pub lowered_pattern_form : PatternData ReprData → Data
  lowered_pattern_form (pattern_at s k) = fields ((codes "kind", lowered_pattern_kind_form k) ∷ (codes "span", span_form s) ∷ [])

  pub lowered_patterns_form : Patterns ReprData → Items
  lowered_patterns_form no_patterns = no_items
  lowered_patterns_form (pattern_and p ps) = item (lowered_pattern_form p) (lowered_patterns_form ps)

  pub lowered_fields_form : Fields ReprData → Items
  lowered_fields_form no_fields = no_items
  lowered_fields_form (field_and s a p fs) =
      item (fields ((codes "field_name", string a) ∷ (codes "field_span", span_form s) ∷ (codes "pattern", lowered_pattern_form p) ∷ []))
      (lowered_fields_form fs)

-- a field of a struct pattern
abbrev pub lowered_field_form : FieldData ReprData → Data
lowered_field_form f =
    fields ((codes "field_name", string f.name) ∷ (codes "field_span", span_form f.span) ∷ (codes "pattern", lowered_pattern_form f.pattern) ∷ [])
