use Rattle.std.proofs.Common.{◌≡◌, [], ◌∷◌, ◌++◌, map, false, ap, sym, ◌∙◌, append-nil}
use Rattle.std.proofs.lemmas.List.{map-append}
use Rattle.lalrpop_norm_tree.specs.Items.{item_view}
use Rattle.lalrpop_norm_precedence.specs.LeveledItems.{item_has_levels}
use Rattle.lalrpop_norm_precedence.proofs.UnleveledItems.{unleveled_faults, unleveled_items, unleveled_names}
use Rattle.lalrpop_norm_precedence.proofs.precedence.grammar.expand_item.Goals as goal

pub returns-then-not-item_has_levels : goal.returns-then-not-item_has_levels
returns-then-not-item_has_levels c =
    let i = item_view c.args.item in
    let before = map item_view c.args.made.now.items in
    let bare : item_has_levels i ≡ false = sym c.if-not-item_has_levels.ensures in
    record {
      value = (
        unleveled_faults i bare,
        ap (map item_view) c.in_ok-push.ensures.items ∙ map-append item_view c.args.made.now.items (c.args.item ∷ [])
            ∙ ap (λ is. before ++ is) (sym (unleveled_items i bare)),
      );
      names = sym (ap (λ ns. c.args.names.now.items ++ ns) (unleveled_names i bare) ∙ append-nil c.args.names.now.items);
    }
