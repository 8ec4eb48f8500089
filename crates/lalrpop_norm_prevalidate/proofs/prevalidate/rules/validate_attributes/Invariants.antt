use Rattle.std.proofs.Common.{◌≡◌, map, take, drop}
use Rattle.lalrpop_norm_tree_parts.specs.Attributes.{attributes_view}
use Rattle.lalrpop_norm_prevalidate.specs.GrammarFaults.{attributes_faults}
use Rattle.lalrpop_norm_prevalidate.specs.Walks.{attributes_along}
use Rattle.lalrpop_norm_prevalidate.proofs.prevalidate.rules.validate_attributes.Given as goal

abbrev pub invariant-loop-i : goal.invariant-loop-i
invariant-loop-i l = attributes_along l.public (map (λ a. a.id) (take l.i l.attributes)) (attributes_view (drop l.i l.attributes)) ≡ attributes_faults l.public (attributes_view l.attributes)
