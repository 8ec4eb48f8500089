use Rattle.std.proofs.Common.{◌≡◌, ◌++◌, drop, map}
use Rattle.lalrpop_norm_tree.specs.Items.{alternative_view}
use Rattle.lalrpop_norm_model.specs.Enabled.{if_active}
use Rattle.lalrpop_norm_common.specs.Sessions.{features_view}
use Rattle.lalrpop_norm_origins.specs.Origins.{origins_view}
use Rattle.lalrpop_norm_origins.specs.EnabledOrigins.{places_from}
use Rattle.lalrpop_norm_origins.proofs.enabled.places.Given as goal

abbrev pub invariant-loop-place : goal.invariant-loop-place
invariant-loop-place g l =
    origins_view l.origins.items
    ++ places_from l.rule.0 l.place (map (if_active (features_view l.session.features)) (map alternative_view (drop l.place l.alternatives)))
    ≡ places_from l.rule.0 0 (map (if_active (features_view l.session.features)) (map alternative_view l.alternatives))
