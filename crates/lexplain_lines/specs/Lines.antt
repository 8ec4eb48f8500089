-- What one line says: its form, its shape, and how many of the trees before it takes.
use Rattle.std.specs.Prelude.{ℕ, [], ◌∷◌, codes}
use Rattle.serde_json.specs.Data.{Data}
use Rattle.lalrpop_norm_model.specs.Reading.{terminal_of}
use Rattle.lalrpop_norm_json.specs.Shapes as shape
use Rattle.lalrpop_norm_json.specs.Shapes.{Shape, variants, field, named, one}
use Rattle.lexplain_lines.specs.declared.lowered.LoweredLine.{LoweredLine}
use Rattle.lexplain_lines.specs.declared.lowered.LoweredLine.TheVariants as lowered
use Rattle.lexplain_lines.specs.declared.written.WrittenLine.{WrittenLine}
use Rattle.lexplain_lines.specs.declared.written.WrittenLine.TheVariants as written
use Rattle.lexplain_lines.specs.LineForms.{leaf_form, nothing_form, list_line_form, written_node_form, lowered_node_form}

abbrev pub lowered_line_form : LoweredLine → Data
lowered_line_form (lowered.Leaf a) = leaf_form (terminal_of a)
lowered_line_form (lowered.Node n p count) = lowered_node_form n.0 p count

abbrev pub lowered_line_children : LoweredLine → ℕ
lowered_line_children (lowered.Leaf a) = 0
lowered_line_children (lowered.Node n p count) = count

abbrev pub lowered_line_shape : Shape
lowered_line_shape =
    variants [] ((codes "Leaf", field (one shape.terminal))
    ∷ (codes "Node", named ((codes "children", one shape.natural) ∷ (codes "nonterminal", one shape.text) ∷ (codes "production", one shape.natural) ∷ []))
    ∷ [])

abbrev pub written_line_form : WrittenLine → Data
written_line_form written.Nothing = nothing_form
written_line_form (written.Leaf a) = leaf_form (terminal_of a)
written_line_form (written.List count) = list_line_form count
written_line_form (written.Node n k count) = written_node_form n.0 k count

abbrev pub written_line_children : WrittenLine → ℕ
written_line_children written.Nothing = 0
written_line_children (written.Leaf a) = 0
written_line_children (written.List count) = count
written_line_children (written.Node n k count) = count

abbrev pub written_line_shape : Shape
written_line_shape =
    variants (codes "Nothing" ∷ []) ((codes "Leaf", field (one shape.terminal)) ∷ (codes "List", field (one shape.natural))
    ∷ (codes "Node", named ((codes "alternative", one shape.natural) ∷ (codes "children", one shape.natural) ∷ (codes "rule", one shape.text) ∷ []))
    ∷ [])
