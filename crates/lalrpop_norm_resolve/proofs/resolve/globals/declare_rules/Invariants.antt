use Rattle.std.proofs.Common.{◌≡◌, map, drop}
use Rattle.std.specs.List.{flat_map}
use Rattle.lalrpop_norm_tree.specs.Items.{item_view}
use Rattle.lalrpop_norm_model.specs.Scopes.{rule_globals}
use Rattle.lalrpop_norm_resolve.specs.NameTables.{rows_of, with_all, rows_faults}
use Rattle.lalrpop_norm_resolve.proofs.resolve.globals.declare_rules.Given as goal

abbrev pub invariant-loop-item : goal.invariant-loop-item
invariant-loop-item l = record {
  sound : rows_faults (rows_of l.globals) (flat_map rule_globals (map item_view (drop l.item-index l.items))) ≡ rows_faults (rows_of l.initial.globals) (flat_map rule_globals (map item_view l.items));
  done : with_all (rows_of l.globals) (flat_map rule_globals (map item_view (drop l.item-index l.items))) ≡ with_all (rows_of l.initial.globals) (flat_map rule_globals (map item_view l.items));
}
