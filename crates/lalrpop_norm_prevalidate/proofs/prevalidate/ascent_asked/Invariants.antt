use Rattle.std.proofs.Common.{◌≡◌, drop}
use Rattle.lalrpop_norm_tree.specs.Accessors.{or_else}
use Rattle.lalrpop_norm_tree_parts.specs.Attributes.{attributes_view}
use Rattle.lalrpop_norm_prevalidate.specs.GrammarFaults.{ascent_asked}
use Rattle.lalrpop_norm_prevalidate.proofs.prevalidate.ascent_asked.Given as goal

abbrev pub invariant-loop-attribute : goal.invariant-loop-attribute
invariant-loop-attribute l = or_else (ascent_asked (attributes_view (drop l.attribute-index l.attributes))) l.asked ≡ ascent_asked (attributes_view l.attributes)
