use Rattle.std.proofs.Common.{◌≡◌, ◌++◌, map}
use Rattle.lalrpop_norm_tree.specs.Items.{item_view}
use Rattle.lalrpop_norm_origins.specs.Origins.{origins_view, origin_lists}
use Rattle.lalrpop_norm_origins.specs.MadeOrigins.{in_one_list}
use Rattle.lalrpop_norm.specs.Roots.{start_origins}
use Rattle.lalrpop_norm.proofs.traced.origins_in_order.Given as goal

-- what is there, and what the lists that are left will add
abbrev pub invariant-loop-list : goal.invariant-loop-list
invariant-loop-list l = origins_view l.origins.items ++ in_one_list (origin_lists l.list-iterator.rest.items)
    ≡ start_origins (map item_view l.fn.items) ++ in_one_list (origin_lists l.fn.lists.items)
