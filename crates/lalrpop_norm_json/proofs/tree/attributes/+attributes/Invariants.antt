use Rattle.std.proofs.Common.{◌∷◌, [], length, option_map, ◌+◌, ◌*◌}
use Rattle.std.specs.Prelude.{codes}
use Rattle.serde_json.specs.Data.{string}
use Rattle.json_records.specs.Variants.{VariantSoFar}
use Rattle.lalrpop_norm_tree_parts.specs.Attributes.{argument_view, attribute_view}
use Rattle.lalrpop_norm_json.specs.Forms.{argument_form, attribute_form, span_form}
use Rattle.lalrpop_norm_json.specs.Shapes as shape
use Rattle.lalrpop_norm_json.specs.Shapes.{is, one}
use Rattle.lalrpop_norm_json.proofs.Loops.{RecordSoFar, ListSoFar}
use Rattle.lalrpop_norm_json.proofs.tree.attributes.+attributes.Given as goal

abbrev pub decreases-argument : goal.decreases-argument
decreases-argument l = 2 * length l.reader.now

abbrev pub decreases-argument_of : goal.decreases-argument_of
decreases-argument_of l = 2 * length l.reader.now + 1

abbrev pub decreases-attribute : goal.decreases-attribute
decreases-attribute l = 2 * length l.reader.now

abbrev pub decreases-attributes : goal.decreases-attributes
decreases-attributes l = 2 * length l.reader.now

abbrev pub invariant-argument-loop-read : goal.invariant-argument-loop-read
invariant-argument-loop-read l = VariantSoFar (λ g. argument_form (argument_view g)) (is shape.attribute_argument) l.depth l.fn.reader l.reader (option_map (λ s. s.now) l.before) l.strays l.read

abbrev pub decreases-argument-loop-read : goal.decreases-argument-loop-read
decreases-argument-loop-read l = length l.reader

abbrev pub invariant-attribute-loop-id : goal.invariant-attribute-loop-id
invariant-attribute-loop-id l =
    RecordSoFar ((codes "arg", one shape.attribute_argument) ∷ (codes "id", one shape.text) ∷ (codes "id_span", one shape.span) ∷ []) l.depth l.fn.reader l.reader
    (option_map (λ g. argument_form (argument_view g)) l.arg ∷ option_map string l.id ∷ option_map span_form l.id_span ∷ []) l.strays

abbrev pub decreases-attribute-loop-id : goal.decreases-attribute-loop-id
decreases-attribute-loop-id l = length l.reader

abbrev pub invariant-attributes-loop-list : goal.invariant-attributes-loop-list
invariant-attributes-loop-list l = ListSoFar (λ a. attribute_form (attribute_view a)) (is shape.attribute) l.depth l.fn.reader l.reader l.good l.list.items

abbrev pub decreases-attributes-loop-list : goal.decreases-attributes-loop-list
decreases-attributes-loop-list l = length l.reader
