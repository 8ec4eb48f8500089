use Rattle.std.proofs.Common.{◌≡◌, ◌++◌, drop, map}
use Rattle.std.specs.List.{flat_map}
use Rattle.lalrpop_norm_tree.specs.Items.{item_view}
use Rattle.lalrpop_norm_origins.specs.Origins.{origin_lists}
use Rattle.lalrpop_norm_origins.specs.MadeOrigins.{traced_rules, plain_list}
use Rattle.lalrpop_norm_macro_expand.specs.TracedRules.{list_view, macro_list}
use Rattle.lalrpop_norm_macro_expand.proofs.macro_expand.rule_lists.rule_lists.Given as goal

abbrev pub invariant-loop-item : goal.invariant-loop-item
invariant-loop-item l = record {
  plain : origin_lists l.lists.plain.items ++ flat_map plain_list (traced_rules (map item_view (drop l.item-index l.item-items)) (origin_lists l.rest.rest.items))
      ≡ flat_map plain_list (traced_rules (map item_view l.item-items) (origin_lists l.fn.origins.items));
  macros : map list_view l.lists.macros.items ++ flat_map macro_list (traced_rules (map item_view (drop l.item-index l.item-items)) (origin_lists l.rest.rest.items))
      ≡ flat_map macro_list (traced_rules (map item_view l.item-items) (origin_lists l.fn.origins.items));
}
