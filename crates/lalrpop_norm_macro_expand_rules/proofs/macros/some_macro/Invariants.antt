use Rattle.std.proofs.Common.{◌≡◌, map, drop}
use Rattle.std.specs.List.{list_any}
use Rattle.lalrpop_norm_tree.specs.Accessors.{is_macro_item}
use Rattle.lalrpop_norm_tree.specs.Items.{item_view}
use Rattle.lalrpop_norm_macro_expand_rules.proofs.macros.some_macro.Given as goal

abbrev pub invariant-loop-item : goal.invariant-loop-item
invariant-loop-item l = list_any is_macro_item (map item_view (drop l.item-index l.items)) ≡ list_any is_macro_item (map item_view l.items)
