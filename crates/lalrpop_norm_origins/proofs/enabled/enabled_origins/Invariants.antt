use Rattle.std.proofs.Common.{◌≡◌, ◌++◌, drop, map}
use Rattle.std.specs.Prelude.{flat_map}
use Rattle.lalrpop_norm_tree.specs.Items.{item_view}
use Rattle.lalrpop_norm_common.specs.Sessions.{features_view}
use Rattle.lalrpop_norm_origins.specs.Origins.{origin_lists}
use Rattle.lalrpop_norm_origins.specs.EnabledOrigins.{enabled_item_origins}
use Rattle.lalrpop_norm_origins.proofs.enabled.enabled_origins.Given as goal

abbrev pub invariant-loop-item : goal.invariant-loop-item
invariant-loop-item g l =
    origin_lists l.lists.items ++ flat_map (enabled_item_origins (features_view l.session.features)) (map item_view (drop l.item-index l.item-items))
    ≡ flat_map (enabled_item_origins (features_view l.session.features)) (map item_view l.item-items)
