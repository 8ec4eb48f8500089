use Rattle.std.proofs.Common.{◌≡◌, drop}
use Rattle.lalrpop_norm_tree_parts.specs.Attributes.{attributes_view}
use Rattle.lalrpop_norm_prevalidate_attributes.specs.CfgFaults.{tests_faults}
use Rattle.lalrpop_norm_prevalidate_attributes.proofs.cfg.+cfg.Given as goal

abbrev pub invariant-check_each-loop-attribute : goal.invariant-check_each-loop-attribute
invariant-check_each-loop-attribute l = tests_faults (attributes_view (drop l.attribute-index l.attributes)) ≡ tests_faults (attributes_view l.attributes)
