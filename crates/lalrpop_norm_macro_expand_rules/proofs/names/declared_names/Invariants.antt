use Rattle.std.proofs.Common.{◌≡◌, take, map}
use Rattle.std.specs.List.{flat_map}
use Rattle.lalrpop_norm_tree.specs.Items.{item_view}
use Rattle.lalrpop_norm_nodes.specs.Meeting.{has_key}
use Rattle.lalrpop_norm_macro_expand_rules.specs.Names.{is_declared_name, item_names}
use Rattle.lalrpop_norm_macro_expand_rules.proofs.names.declared_names.Given as goal

abbrev pub invariant-loop-item : goal.invariant-loop-item
invariant-loop-item l = has_key l.names ≡ is_declared_name (flat_map item_names (map item_view (take l.item-index l.items)))
