use Rattle.std.proofs.Common.{List, map, refl, ap, ◌∙◌}
use Rattle.std.specs.List.{flat_map}
use Rattle.lalrpop_norm_tree.specs.declared.items.GrammarItem.{GrammarItem}
use Rattle.lalrpop_norm_tree.specs.Items.{item_view}
use Rattle.lalrpop_norm_origins.specs.Origins.{origin_lists}
use Rattle.lalrpop_norm_origins.specs.MadeOrigins.{traced_rules, plain_list}
use Rattle.lalrpop_norm_macro_expand.specs.TracedRules.{macro_list}
use Rattle.lalrpop_norm_macro_expand.proofs.LoopLemmas.{all_through}
use Rattle.lalrpop_norm_macro_expand.proofs.macro_expand.rule_lists.rule_lists.Goals as goal

pub returns : goal.returns
returns c =
    let items : List GrammarItem = c.deref-item-items.result.now in
    let left = origin_lists c.loop-item.rest.rest.items in
    let whole = origin_lists c.args.origins.items in
    record {
      plain =
          all_through items c.loop-item.item-index (λ is. flat_map plain_list (traced_rules (map item_view is) left)) _ _ c.loop-item-test.false refl c.loop-item.invariant.plain
          ∙ ap (λ (is : List GrammarItem). flat_map plain_list (traced_rules (map item_view is) whole)) c.deref-item-items.ensures.value;
      macros =
          all_through items c.loop-item.item-index (λ is. flat_map macro_list (traced_rules (map item_view is) left)) _ _ c.loop-item-test.false refl c.loop-item.invariant.macros
          ∙ ap (λ (is : List GrammarItem). flat_map macro_list (traced_rules (map item_view is) whole)) c.deref-item-items.ensures.value;
    }
