use Rattle.std.proofs.Common.{ℕ, ◌+◌, ◌*◌, [], ◌∷◌, length, codes, map, option_map, Vec, Global}
use Rattle.serde_json.specs.Data.{boolean, string}
use Rattle.json_records.specs.Reading.{list_form, is_list, is_truth}
use Rattle.json_records.specs.Variants.{VariantSoFar}
use Rattle.lalrpop_norm_tree.specs.declared.types.TypeRef.{TypeRef}
use Rattle.lalrpop_norm_tree.specs.Types.{type_view}
use Rattle.lalrpop_norm_tree_parts.specs.Paths.{path_view}
use Rattle.lalrpop_norm_tree_patterns.specs.declared.pattern.FieldPattern.{FieldPattern}
use Rattle.lalrpop_norm_tree_patterns.specs.declared.pattern.Pattern.{Pattern}
use Rattle.lalrpop_norm_tree_patterns.specs.Patterns.{pattern_kind_view, pattern_view, field_view}
use Rattle.lalrpop_norm_json.specs.Forms.{path_form, span_form}
use Rattle.lalrpop_norm_json.specs.PatternForms.{pattern_kind_form, pattern_form, field_form}
use Rattle.lalrpop_norm_json.specs.Shapes as shape
use Rattle.lalrpop_norm_json.specs.Shapes.{is, one}
use Rattle.lalrpop_norm_json.proofs.Loops.{RecordSoFar, ListSoFar}
use Rattle.lalrpop_norm_json.proofs.RowLoops.{RowRead}
use Rattle.lalrpop_norm_json.proofs.tree.patterns.+pattern.Given as goal

-- the readers that take a token first, and those that hand the same reader on
abbrev pub decreases-pattern_kind : goal.decreases-pattern_kind
decreases-pattern_kind l = 2 * length l.reader.now

abbrev pub decreases-pattern_kind_of : goal.decreases-pattern_kind_of
decreases-pattern_kind_of l = 2 * length l.reader.now + 1

abbrev pub decreases-path_and_patterns : goal.decreases-path_and_patterns
decreases-path_and_patterns l = 2 * length l.reader.now

abbrev pub decreases-structured : goal.decreases-structured
decreases-structured l = 2 * length l.reader.now

abbrev pub decreases-field_pattern : goal.decreases-field_pattern
decreases-field_pattern l = 2 * length l.reader.now

abbrev pub decreases-field_patterns : goal.decreases-field_patterns
decreases-field_patterns l = 2 * length l.reader.now

abbrev pub decreases-pattern : goal.decreases-pattern
decreases-pattern l = 2 * length l.reader.now

abbrev pub decreases-patterns : goal.decreases-patterns
decreases-patterns l = 2 * length l.reader.now

abbrev pub invariant-pattern_kind-loop-read : goal.invariant-pattern_kind-loop-read
invariant-pattern_kind-loop-read l = VariantSoFar (λ k. pattern_kind_form (pattern_kind_view type_view k)) (is shape.pattern_kind) l.depth l.fn.reader l.reader (option_map (λ s. s.now) l.before) l.strays l.read

abbrev pub decreases-pattern_kind-loop-read : goal.decreases-pattern_kind-loop-read
decreases-pattern_kind-loop-read l = length l.reader

abbrev pub invariant-path_and_patterns-loop-list : goal.invariant-path_and_patterns-loop-list
invariant-path_and_patterns-loop-list l =
    RowRead (is shape.path ∷ is_list (is shape.pattern) ∷ []) l.depth l.fn.reader l.reader
    (option_map (λ p. path_form (path_view p)) l.path ∷ option_map (λ (ps : Vec (Pattern TypeRef) Global). list_form (map (λ p. pattern_form (pattern_view type_view p)) ps.items)) l.list ∷ []) l.place

abbrev pub decreases-path_and_patterns-loop-list : goal.decreases-path_and_patterns-loop-list
decreases-path_and_patterns-loop-list l = length l.reader

abbrev pub invariant-structured-loop-fields : goal.invariant-structured-loop-fields
invariant-structured-loop-fields l =
    RowRead (is shape.path ∷ is_list (is shape.field_pattern) ∷ is_truth ∷ []) l.depth l.fn.reader l.reader
    (option_map (λ p. path_form (path_view p)) l.path ∷ option_map (λ (fs : Vec (FieldPattern TypeRef) Global). list_form (map (λ f. field_form (field_view type_view f)) fs.items)) l.fields ∷ option_map boolean l.rest ∷ []) l.place

abbrev pub decreases-structured-loop-fields : goal.decreases-structured-loop-fields
decreases-structured-loop-fields l = length l.reader

abbrev pub invariant-field_pattern-loop-of : goal.invariant-field_pattern-loop-of
invariant-field_pattern-loop-of l =
    RecordSoFar ((codes "field_name", one shape.text) ∷ (codes "field_span", one shape.span) ∷ (codes "pattern", one shape.pattern) ∷ []) l.depth l.fn.reader l.reader
    (option_map string l.field_name ∷ option_map span_form l.field_span ∷ option_map (λ p. pattern_form (pattern_view type_view p)) l.of ∷ []) l.strays

abbrev pub decreases-field_pattern-loop-of : goal.decreases-field_pattern-loop-of
decreases-field_pattern-loop-of l = length l.reader

abbrev pub invariant-field_patterns-loop-list : goal.invariant-field_patterns-loop-list
invariant-field_patterns-loop-list l = ListSoFar (λ f. field_form (field_view type_view f)) (is shape.field_pattern) l.depth l.fn.reader l.reader l.good l.list.items

abbrev pub decreases-field_patterns-loop-list : goal.decreases-field_patterns-loop-list
decreases-field_patterns-loop-list l = length l.reader

abbrev pub invariant-pattern-loop-kind : goal.invariant-pattern-loop-kind
invariant-pattern-loop-kind l =
    RecordSoFar ((codes "kind", one shape.pattern_kind) ∷ (codes "span", one shape.span) ∷ []) l.depth l.fn.reader l.reader
    (option_map (λ k. pattern_kind_form (pattern_kind_view type_view k)) l.kind ∷ option_map span_form l.span ∷ []) l.strays

abbrev pub decreases-pattern-loop-kind : goal.decreases-pattern-loop-kind
decreases-pattern-loop-kind l = length l.reader

abbrev pub invariant-patterns-loop-list : goal.invariant-patterns-loop-list
invariant-patterns-loop-list l = ListSoFar (λ p. pattern_form (pattern_view type_view p)) (is shape.pattern) l.depth l.fn.reader l.reader l.good l.list.items

abbrev pub decreases-patterns-loop-list : goal.decreases-patterns-loop-list
decreases-patterns-loop-list l = length l.reader
