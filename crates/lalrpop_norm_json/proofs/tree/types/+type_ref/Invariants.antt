use Rattle.std.proofs.Common.{ℕ, ◌+◌, ◌*◌, List, [], ◌∷◌, codes, length, map, option_map}
use Rattle.serde_json.specs.Data.{boolean}
use Rattle.json_records.specs.Reading.{list_form, maybe_form}
use Rattle.json_records.specs.Variants.{VariantSoFar}
use Rattle.lalrpop_norm_tree_parts.specs.Paths.{path_view}
use Rattle.lalrpop_norm_tree.specs.Types.{type_view}
use Rattle.lalrpop_norm_json.specs.Forms.{lifetime_form, type_parameter_form, path_form}
use Rattle.lalrpop_norm_json.specs.TypeForms.{type_form}
use Rattle.lalrpop_norm_json.specs.Shapes as shape
use Rattle.lalrpop_norm_json.specs.Shapes.{one, maybe, many, is}
use Rattle.lalrpop_norm_json.proofs.Loops.{RecordSoFar, ListSoFar}
use Rattle.lalrpop_norm_json.proofs.tree.types.+type_ref.Given as goal

-- the readers that take a token first, and those that hand the same reader on
abbrev pub decreases-type_ref : goal.decreases-type_ref
decreases-type_ref l = 3 * length l.reader.now

abbrev pub decreases-path_and_types : goal.decreases-path_and_types
decreases-path_and_types l = 3 * length l.reader.now

abbrev pub decreases-reference_type : goal.decreases-reference_type
decreases-reference_type l = 3 * length l.reader.now

abbrev pub decreases-function_type : goal.decreases-function_type
decreases-function_type l = 3 * length l.reader.now

abbrev pub decreases-type_refs : goal.decreases-type_refs
decreases-type_refs l = 3 * length l.reader.now

abbrev pub decreases-reference_field : goal.decreases-reference_field
decreases-reference_field l = 3 * length l.reader.now + 1

abbrev pub decreases-slice_type : goal.decreases-slice_type
decreases-slice_type l = 3 * length l.reader.now + 1

abbrev pub decreases-maybe_type_ref : goal.decreases-maybe_type_ref
decreases-maybe_type_ref l = 3 * length l.reader.now + 1

abbrev pub decreases-type_of : goal.decreases-type_of
decreases-type_of l = 3 * length l.reader.now + 2

abbrev pub invariant-type_ref-loop-read : goal.invariant-type_ref-loop-read
invariant-type_ref-loop-read l = VariantSoFar (λ t. type_form (type_view t)) (is shape.type) l.depth l.fn.reader l.reader (option_map (λ s. s.now) l.before) l.strays l.read

abbrev pub decreases-type_ref-loop-read : goal.decreases-type_ref-loop-read
decreases-type_ref-loop-read l = length l.reader

abbrev pub invariant-path_and_types-loop-types : goal.invariant-path_and_types-loop-types
invariant-path_and_types-loop-types l =
    RecordSoFar ((codes "path", one shape.path) ∷ (codes "types", many shape.type) ∷ []) l.depth l.fn.reader l.reader
    (option_map (λ p. path_form (path_view p)) l.path ∷ option_map (λ xs. list_form (map (λ t. type_form (type_view t)) xs.items)) l.types ∷ []) l.strays

abbrev pub decreases-path_and_types-loop-types : goal.decreases-path_and_types-loop-types
decreases-path_and_types-loop-types l = length l.reader

abbrev pub invariant-reference_type-loop-fields : goal.invariant-reference_type-loop-fields
invariant-reference_type-loop-fields l =
    RecordSoFar ((codes "lifetime", maybe shape.text) ∷ (codes "mutable", one shape.truth) ∷ (codes "referent", one shape.type) ∷ []) l.depth l.fn.reader l.reader
    (option_map (maybe_form lifetime_form) l.fields.first ∷ option_map boolean l.fields.rest.first ∷ option_map (λ t. type_form (type_view t)) l.fields.rest.rest.first ∷ []) l.strays

abbrev pub decreases-reference_type-loop-fields : goal.decreases-reference_type-loop-fields
decreases-reference_type-loop-fields l = length l.reader

abbrev pub invariant-function_type-loop-ret : goal.invariant-function_type-loop-ret
invariant-function_type-loop-ret l =
    RecordSoFar ((codes "forall", many shape.type_parameter) ∷ (codes "parameters", many shape.type) ∷ (codes "path", one shape.path) ∷ (codes "ret", maybe shape.type) ∷ []) l.depth l.fn.reader l.reader
    (option_map (λ xs. list_form (map type_parameter_form xs.items)) l.forall ∷ option_map (λ xs. list_form (map (λ t. type_form (type_view t)) xs.items)) l.parameters
    ∷ option_map (λ p. path_form (path_view p)) l.path ∷ option_map (maybe_form (λ b. type_form (type_view b.value))) l.ret ∷ []) l.strays

abbrev pub decreases-function_type-loop-ret : goal.decreases-function_type-loop-ret
decreases-function_type-loop-ret l = length l.reader

abbrev pub invariant-type_refs-loop-list : goal.invariant-type_refs-loop-list
invariant-type_refs-loop-list l = ListSoFar (λ t. type_form (type_view t)) (is shape.type) l.depth l.fn.reader l.reader l.good l.list.items

abbrev pub decreases-type_refs-loop-list : goal.decreases-type_refs-loop-list
decreases-type_refs-loop-list l = length l.reader
