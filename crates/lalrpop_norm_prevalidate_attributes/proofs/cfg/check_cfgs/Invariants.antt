use Rattle.std.proofs.Common.{◌≡◌, drop}
use Rattle.lalrpop_norm_tree_parts.specs.Attributes.{attributes_view}
use Rattle.lalrpop_norm_prevalidate_attributes.specs.CfgFaults.{all_cfg_faults}
use Rattle.lalrpop_norm_prevalidate_attributes.proofs.cfg.check_cfgs.Given as goal

abbrev pub invariant-loop-attribute : goal.invariant-loop-attribute
invariant-loop-attribute l = all_cfg_faults (attributes_view (drop l.attribute-index l.attributes)) ≡ all_cfg_faults (attributes_view l.attributes)
