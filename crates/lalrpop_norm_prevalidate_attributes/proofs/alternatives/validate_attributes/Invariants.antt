use Rattle.std.proofs.Common.{◌≡◌, drop}
use Rattle.lalrpop_norm_tree_parts.specs.Attributes.{attributes_view}
use Rattle.lalrpop_norm_prevalidate_attributes.specs.AttributeFaults.{alternative_attributes_faults}
use Rattle.lalrpop_norm_prevalidate_attributes.proofs.alternatives.validate_attributes.Given as goal

abbrev pub invariant-loop-attribute : goal.invariant-loop-attribute
invariant-loop-attribute l = alternative_attributes_faults (attributes_view (drop l.attribute-index l.attributes)) ≡ alternative_attributes_faults (attributes_view l.attributes)
