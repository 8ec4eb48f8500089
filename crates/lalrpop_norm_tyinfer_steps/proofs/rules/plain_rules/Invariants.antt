use Rattle.std.proofs.Common.{◌≡◌, ◌++◌, drop, map}
use Rattle.std.specs.List.{flat_map}
use Rattle.lalrpop_norm_tree.specs.Items.{item_view}
use Rattle.lalrpop_norm_model.specs.PlainRules.{rule_of_item}
use Rattle.lalrpop_norm_tyinfer_steps.specs.Visits.{rule_seen, with_clauses}
use Rattle.lalrpop_norm_tyinfer_steps.proofs.rules.plain_rules.Given as goal

abbrev pub invariant-loop-item : goal.invariant-loop-item
invariant-loop-item l = map rule_seen l.rules.items ++ map with_clauses (flat_map rule_of_item (map item_view (drop l.item-index l.items))) ≡ map with_clauses (flat_map rule_of_item (map item_view l.items))
