use Rattle.std.proofs.Common.{◌≡◌, ◌∷◌, ◌++◌, ap, map, ◌∙◌}
use Rattle.std.proofs.lemmas.List.{append_assoc}
use Rattle.lalrpop_norm_tree.specs.Items.{item_view}
use Rattle.lalrpop_norm_origins.specs.Origins.{origins_view, origin_lists}
use Rattle.lalrpop_norm_origins.specs.MadeOrigins.{in_one_list}
use Rattle.lalrpop_norm.specs.Roots.{start_origins}
use Rattle.lalrpop_norm.proofs.traced.origins_in_order.Goals as goal

pub loop-list-preserved : goal.loop-list-preserved
loop-list-preserved c =
    let left = in_one_list (origin_lists c.next.new.self.rest.items) in
    let before : origins_view c.loop-list.origins.items ++ in_one_list (origin_lists (c.in-Some.list ∷ c.next.new.self.rest.items))
    ≡ start_origins (map item_view c.args.items.now) ++ in_one_list (origin_lists c.args.lists.items) = rw c.in-Some.ensures.steps.0 at c.loop-list.invariant in
    ap (λ os. os ++ left) c.in_ok-add_all.ensures
    ∙ append_assoc (origins_view c.loop-list.origins.items) (origins_view c.in-Some.list.items) left
    ∙ before
