use Rattle.std.proofs.Common.{◌≡◌, ◌≤◌, ℕ, drop, take, map, slice_index_or}
use Rattle.std.specs.List.{flat_map}
use Rattle.lalrpop_norm_tree.specs.declared.items.GrammarItem.{GrammarItem}
use Rattle.lalrpop_norm_tree.specs.Items.{item_view}
use Rattle.lalrpop_norm_resolve.specs.NameTables.{item_faults_in, resolved_item_in}
use Rattle.lalrpop_norm_resolve.proofs.resolve.items.resolve_items.Given as goal

abbrev pub invariant-loop-item : goal.invariant-loop-item
invariant-loop-item l = record {
  rest : (k : ℕ) (d : GrammarItem) → l.item-index ≤ k → slice_index_or l.items k d ≡ slice_index_or l.initial.items k d;
  done : map item_view (take l.item-index l.items) ≡ map (resolved_item_in l.globals) (map item_view (take l.item-index l.initial.items));
  sound : flat_map (item_faults_in l.globals) (map item_view (drop l.item-index l.initial.items)) ≡ flat_map (item_faults_in l.globals) (map item_view l.initial.items);
}
