use Rattle.std.proofs.Common.{◌≡◌, ◌+◌, length, drop, map}
use Rattle.lalrpop_norm_origins.specs.Origins.{origins_view, origin_lists}
use Rattle.lalrpop_norm_precedence.specs.LevelLists.{levels_held, picked, filled_lists}
use Rattle.lalrpop_norm_precedence.proofs.precedence.lists.grouped.Given as goal

abbrev pub invariant-loop-origin : goal.invariant-loop-origin
invariant-loop-origin l = record {
  count : l.i + length l.origin-iterator.rest.items ≡ length l.levels;
  groups : length l.groups.items ≡ length l.rising;
  value : filled_lists (origin_lists l.groups.items) l.rising (levels_held (drop l.i l.levels)) (origins_view l.origin-iterator.rest.items)
      ≡ map (λ m. picked m (levels_held l.levels) (origins_view l.fn.origins.items)) l.rising;
}
