use Rattle.std.proofs.Common.{◌≡◌, ◌+◌, ◌≤◌, drop, length, map}
use Rattle.std.specs.List.{flat_map}
use Rattle.lalrpop_norm_tree.specs.Items.{item_view}
use Rattle.lalrpop_norm_model.specs.Expanded.{enum_in, match_in, intern_in}
use Rattle.lalrpop_norm_is_expanded.proofs.tokens.count_sources.Given as goal

abbrev pub invariant-loop-item : goal.invariant-loop-item
invariant-loop-item l = record {
  enums : (l.enums ≤ l.item-index) × (l.enums + length (flat_map enum_in (map item_view (drop l.item-index l.items))) ≡ length (flat_map enum_in (map item_view l.items)));
  blocks : (l.blocks ≤ l.item-index) × (l.blocks + length (flat_map match_in (map item_view (drop l.item-index l.items))) ≡ length (flat_map match_in (map item_view l.items)));
  interns : (l.interns ≤ l.item-index) × (l.interns + length (flat_map intern_in (map item_view (drop l.item-index l.items))) ≡ length (flat_map intern_in (map item_view l.items)));
}
