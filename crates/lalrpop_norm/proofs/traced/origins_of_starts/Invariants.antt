use Rattle.std.proofs.Common.{◌≡◌, ◌++◌, drop, map}
use Rattle.lalrpop_norm_tree.specs.Items.{item_view}
use Rattle.lalrpop_norm_origins.specs.Origins.{origins_view}
use Rattle.lalrpop_norm.specs.Roots.{start_origins}
use Rattle.lalrpop_norm.proofs.traced.origins_of_starts.Given as goal

-- what is there, and what the items that are left will add
abbrev pub invariant-loop-item : goal.invariant-loop-item
invariant-loop-item l = origins_view l.origins.items ++ start_origins (map item_view (drop l.item-index l.items)) ≡ start_origins (map item_view l.items)
