use Rattle.std.proofs.Common.{◌≡◌, drop, map}
use Rattle.lalrpop_norm_tree.specs.Items.{item_view}
use Rattle.lalrpop_norm_is_expanded.specs.Plain.{is_rule_there}
use Rattle.lalrpop_norm_is_expanded.proofs.plain.is_rule_there.Given as goal

abbrev pub invariant-loop-item : goal.invariant-loop-item
invariant-loop-item l = is_rule_there (map item_view (drop l.item-index l.items)) l.name.0 ≡ is_rule_there (map item_view l.items) l.name.0
