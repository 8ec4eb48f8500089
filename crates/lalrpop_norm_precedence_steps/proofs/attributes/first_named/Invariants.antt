use Rattle.std.proofs.Common.{◌≡◌, drop}
use Rattle.lalrpop_norm_tree_parts.specs.Attributes.{attributes_view}
use Rattle.lalrpop_norm_model.specs.Levels.{first_named}
use Rattle.lalrpop_norm_precedence_steps.proofs.attributes.first_named.Given as goal

abbrev pub invariant-loop-attribute : goal.invariant-loop-attribute
invariant-loop-attribute l =
    first_named l.name (attributes_view (drop l.attribute-index l.attributes)) ≡ first_named l.name (attributes_view l.attributes)
