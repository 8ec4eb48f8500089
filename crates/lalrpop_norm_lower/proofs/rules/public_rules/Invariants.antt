use Rattle.std.proofs.Common.{◌≡◌, ◌++◌, drop, map}
use Rattle.lalrpop_norm_tree.specs.Items.{rule_view, item_view}
use Rattle.lalrpop_norm_lower.specs.Lowering.{rules_among, public_rules_in}
use Rattle.lalrpop_norm_lower.proofs.rules.public_rules.Given as goal

abbrev pub invariant-loop-item : goal.invariant-loop-item
invariant-loop-item l = map (λ r. rule_view r.now) l.chosen.items ++ public_rules_in (rules_among (map item_view (drop l.item-index l.items))) ≡ public_rules_in (rules_among (map item_view l.items))
