use Rattle.std.proofs.Common.{◌≡◌, ◌++◌, drop}
use Rattle.lalrpop_norm_tree_parts.specs.Attributes.{attributes_view}
use Rattle.lalrpop_norm_prevalidate.specs.MalformedCfgs.{malformed_among}
use Rattle.lalrpop_norm_prevalidate.proofs.prevalidate.malformed.add_attributes.Given as goal

abbrev pub invariant-loop-attribute : goal.invariant-loop-attribute
invariant-loop-attribute l =
    l.spans.items ++ malformed_among (attributes_view (drop l.attribute-index l.attributes)) ≡ l.initial.spans.items ++ malformed_among (attributes_view l.attributes)
