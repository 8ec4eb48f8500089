use Rattle.std.proofs.Common.{◌≡◌, [], map, take, drop, ◌++◌}
use Rattle.std.specs.List.{flat_map}
use Rattle.lalrpop_norm_tree.specs.Items.{item_view}
use Rattle.lalrpop_norm_nodes.specs.Tables.{IsCounted, TableMeets, refused_in}
use Rattle.lalrpop_norm_nodes.specs.Waits.{LeavesWaiting}
use Rattle.lalrpop_norm_macro_expand_rules.specs.Items.{replaced_item, met_in_item, shown_in_item}
use Rattle.lalrpop_norm_macro_expand_rules.proofs.items.replace_items.Given as goal

abbrev pub invariant-loop-i : goal.invariant-loop-i
invariant-loop-i l = record {
  value : map item_view l.items ≡ map replaced_item (take l.i (map item_view l.initial.items)) ++ drop l.i (map item_view l.initial.items);
  refuses : refused_in l.initial.table (flat_map met_in_item (take l.i (map item_view l.initial.items))) ≡ [];
  meets : TableMeets l.initial.table l.table (flat_map met_in_item (take l.i (map item_view l.initial.items)));
  waits : LeavesWaiting l.initial.table l.table (flat_map shown_in_item (take l.i (map item_view l.initial.items)));
  counted : IsCounted l.table;
}
