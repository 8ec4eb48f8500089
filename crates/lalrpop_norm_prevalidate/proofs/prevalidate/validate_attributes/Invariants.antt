use Rattle.std.proofs.Common.{◌≡◌, drop}
use Rattle.lalrpop_norm_tree_parts.specs.Attributes.{attributes_view}
use Rattle.lalrpop_norm_prevalidate.specs.GrammarFaults.{unknown_grammar_faults}
use Rattle.lalrpop_norm_prevalidate.proofs.prevalidate.validate_attributes.Given as goal

abbrev pub invariant-loop-attribute : goal.invariant-loop-attribute
invariant-loop-attribute l = unknown_grammar_faults (attributes_view (drop l.attribute-index l.attributes)) ≡ unknown_grammar_faults (attributes_view l.attributes)
