use Rattle.std.proofs.Common.{◌≡◌, List, length, map, ap, sym, ◌∙◌, arith}
use Rattle.std.proofs.lemmas.List.{with_items_is}
use Rattle.lalrpop_norm_tree.specs.Items.{ItemData, item_view, grammar_view}
use Rattle.lalrpop_norm_common.specs.Sessions.{features_view}
use Rattle.lalrpop_norm_prevalidate.specs.EnabledItems.{trimmed}
use Rattle.lalrpop_norm_prevalidate.proofs.EnabledLemmas.{items_enabled}
use Rattle.lalrpop_norm_prevalidate.proofs.cond_comp.remove_disabled_decls.Goals as goal

pub returns : goal.returns
returns g c =
    let fs = features_view c.args.session.now.features in
    let kept = c.retain_items.new.items in
    let same : length c.trim_items.new.items ≡ kept.len = omega arith in
    ap (λ (xs : List ItemData). record (grammar_view c.args.grammar) { items = xs })
    (ap (λ xs. map item_view xs) (with_items_is kept c.trim_items.new.items same)
    ∙ c.trim_items.ensures ∙ ap (λ xs. map (trimmed fs) (map item_view xs)) c.deref_mut.ensures.value
    ∙ ap (λ xs. map (trimmed fs) xs) c.retain_items.ensures ∙ sym (items_enabled fs (map item_view c.args.grammar.items.items)))
