use Rattle.std.proofs.Common.{◌≡◌, ◌+◌, ◌∷◌, [], ◌++◌, drop, map, sym, ap, ◌∙◌, arith, append-nil}
use Rattle.std.proofs.lemmas.List.{append_assoc, at_drop_all}
use Rattle.lalrpop_norm_faults.proofs.FaultLemmas.{at_drop_item}
use Rattle.lalrpop_norm_tree.specs.Items.{item_view}
use Rattle.lalrpop_norm_origins.specs.Origins.{origins_view}
use Rattle.lalrpop_norm.specs.Roots.{start_origins}
use Rattle.lalrpop_norm.proofs.RootNames.{starts_step}
use Rattle.lalrpop_norm.proofs.traced.origins_of_starts.Goals as goal

pub loop-item-preserved : goal.loop-item-preserved
loop-item-preserved c =
    let items = c.args.items.now in
    let i = c.loop-item.item-index in
    let x = c.item-item.result in
    let before = origins_view c.loop-item.origins.items in
    let left = start_origins (map item_view (drop (i + 1) items)) in
    ap (λ os. os ++ left) c.in_ok-add_start.ensures
    ∙ append_assoc before (start_origins (item_view x ∷ [])) left
    ∙ ap (λ os. before ++ os)
    (sym (starts_step (item_view x) (map item_view (drop (i + 1) items)))
    ∙ sym (at_drop_item (λ ys. start_origins (map item_view ys)) items i x c.loop-item-test.true c.item-item.is))
    ∙ c.loop-item.invariant

pub returns : goal.returns
returns c =
    let there = origins_view c.loop-item.origins.items in
    sym (append-nil there)
    ∙ ap (λ os. there ++ os) (sym (at_drop_all (λ ys. start_origins (map item_view ys)) c.args.items.now c.loop-item.item-index (omega arith)))
    ∙ c.loop-item.invariant
