use Rattle.std.proofs.Common.{◌≡◌, ◌++◌, drop, map}
use Rattle.lalrpop_norm_tree.specs.Items.{item_view}
use Rattle.lalrpop_norm_origins.specs.Origins.{origin_lists}
use Rattle.lalrpop_norm_precedence.specs.LevelLists.{IsShaped, leveled_lists}
use Rattle.lalrpop_norm_precedence.proofs.precedence.lists.level_lists.Given as goal

abbrev pub invariant-loop-item : goal.invariant-loop-item
invariant-loop-item l = record {
  shape : IsShaped (map item_view (drop l.item-index l.items)) (origin_lists l.rest.rest.items);
  value : origin_lists l.lists.items ++ leveled_lists (map item_view (drop l.item-index l.items)) (origin_lists l.rest.rest.items)
      ≡ leveled_lists (map item_view l.items) (origin_lists l.fn.origins.items);
}
