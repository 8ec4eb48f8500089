use Rattle.std.proofs.Common.{◌≡◌, map, take}
use Rattle.lalrpop_norm_tree_parts.specs.Attributes.{attribute_view}
use Rattle.lalrpop_norm_tree_parts.proofs.attribute.copy.+copy.Given as goal

abbrev pub invariant-copy_attributes-loop-attribute : goal.invariant-copy_attributes-loop-attribute
invariant-copy_attributes-loop-attribute l = map attribute_view l.copies.items ≡ map attribute_view (take l.attribute-index l.attribute-items)
