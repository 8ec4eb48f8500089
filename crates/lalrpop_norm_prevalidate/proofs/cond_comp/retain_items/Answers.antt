use Rattle.std.proofs.Common.{rules, ap, ◌∙◌}
use Rattle.std.specs.Prelude.{map}
use Rattle.std.proofs.lemmas.Fn.{filter_same}
use Rattle.lalrpop_norm_tree.specs.Items.{item_view}
use Rattle.lalrpop_norm_prevalidate.specs.EnabledItems.{stays}
use Rattle.lalrpop_norm_common.specs.Sessions.{features_view}
use Rattle.lalrpop_norm_prevalidate_attributes.proofs.EnabledLemmas.{filter_viewed}
use Rattle.lalrpop_norm_prevalidate.proofs.cond_comp.retain_items.Goals as goal

pub returns : goal.returns
returns g c =
    let fs = features_view c.args.session.now.features in
    ap (λ xs. map item_view xs) (filter_same _ (λ x. stays fs (item_view x)) _ (λ x b f k. search rules) _ _ c.retain.ensures.filtered)
    ∙ filter_viewed item_view (stays fs) c.args.items.now.items
