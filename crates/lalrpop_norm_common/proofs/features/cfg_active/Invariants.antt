use Rattle.std.proofs.Common.{◌≡◌, drop}
use Rattle.lalrpop_norm_tree_parts.specs.Attributes.{attributes_view}
use Rattle.lalrpop_norm_model.specs.Features.{is_active}
use Rattle.lalrpop_norm_common.specs.Sessions.{features_view}
use Rattle.lalrpop_norm_common.proofs.features.cfg_active.Given as goal

abbrev pub invariant-loop-attribute : goal.invariant-loop-attribute
invariant-loop-attribute g l =
    is_active (features_view l.session.features) (attributes_view (drop l.attribute-index l.attributes)) ≡ is_active (features_view l.session.features) (attributes_view l.attributes)
