use Rattle.std.proofs.Common.{◌≡◌, [], take, map}
use Rattle.std.specs.List.{flat_map}
use Rattle.lalrpop_norm_tree.specs.Items.{item_view}
use Rattle.lalrpop_norm.specs.Roots.{plain_names, with_rule_names}
use Rattle.lalrpop_norm.proofs.traced.names_of_written_rules.Given as goal

abbrev pub invariant-loop-item : goal.invariant-loop-item
invariant-loop-item l = l.names.keys ≡ with_rule_names [] (flat_map plain_names (map item_view (take l.item-index l.items)))
