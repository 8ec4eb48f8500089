use Rattle.std.proofs.Common.{rules, ap, ◌∙◌}
use Rattle.std.specs.Prelude.{map}
use Rattle.std.proofs.lemmas.Fn.{filter_same}
use Rattle.lalrpop_norm_tree.specs.Items.{conversion_view}
use Rattle.lalrpop_norm_model.specs.Features.{is_active}
use Rattle.lalrpop_norm_common.specs.Sessions.{features_view}
use Rattle.lalrpop_norm_prevalidate_attributes.proofs.EnabledLemmas.{filter_viewed}
use Rattle.lalrpop_norm_prevalidate.proofs.cond_comp.retain_conversions.Goals as goal

pub returns : goal.returns
returns g c =
    let fs = features_view c.args.session.now.features in
    ap (λ xs. map conversion_view xs) (filter_same _ (λ x. is_active fs (conversion_view x).attributes) _ (λ x b f k. search rules) _ _ c.retain.ensures.filtered)
    ∙ filter_viewed conversion_view (λ a. is_active fs a.attributes) c.args.conversions.now.items
