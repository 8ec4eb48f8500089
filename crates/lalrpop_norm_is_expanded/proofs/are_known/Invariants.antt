use Rattle.std.proofs.Common.{◌≡◌, drop}
use Rattle.lalrpop_norm_tree_parts.specs.Attributes.{attributes_view}
use Rattle.lalrpop_norm_model.specs.Expanded.{all_known}
use Rattle.lalrpop_norm_is_expanded.proofs.are_known.Given as goal

abbrev pub invariant-loop-attribute : goal.invariant-loop-attribute
invariant-loop-attribute l = all_known (attributes_view (drop l.attribute-index l.attributes)) ≡ all_known (attributes_view l.attributes)
