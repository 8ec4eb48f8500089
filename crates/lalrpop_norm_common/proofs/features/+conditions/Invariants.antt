use Rattle.std.proofs.Common.{◌≡◌, drop}
use Rattle.lalrpop_norm_tree_parts.specs.Attributes.{attributes_view}
use Rattle.lalrpop_norm_model.specs.Features.{all_hold, any_holds}
use Rattle.lalrpop_norm_common.specs.Sessions.{features_view}
use Rattle.lalrpop_norm_common.proofs.features.+conditions.Given as goal

abbrev pub invariant-all_hold-loop-condition : goal.invariant-all_hold-loop-condition
invariant-all_hold-loop-condition l =
    all_hold (features_view l.features) (attributes_view (drop l.condition-index l.conditions)) ≡ all_hold (features_view l.features) (attributes_view l.conditions)

abbrev pub invariant-any_holds-loop-condition : goal.invariant-any_holds-loop-condition
invariant-any_holds-loop-condition l =
    any_holds (features_view l.features) (attributes_view (drop l.condition-index l.conditions)) ≡ any_holds (features_view l.features) (attributes_view l.conditions)
