use Rattle.std.proofs.Common.{◌≡◌, ◌++◌, map}
use Rattle.std.specs.List.{flat_map}
use Rattle.lalrpop_norm_tree.specs.Items.{item_view}
use Rattle.lalrpop_norm_macro_expand_rules.specs.Macros.{macros_in, AreByName}
use Rattle.lalrpop_norm_macro_expand_rules.specs.Items.{macro_in, without_macro}
use Rattle.lalrpop_norm_macro_expand_rules.proofs.macros.without_macros.Given as goal

abbrev pub invariant-loop-item : goal.invariant-loop-item
invariant-loop-item l = record {
  others : map item_view l.others.items ++ flat_map without_macro (map item_view l.item-iterator.rest.items) ≡ flat_map without_macro (map item_view l.fn.items.items);
  macros : macros_in l.macros ++ flat_map macro_in (map item_view l.item-iterator.rest.items) ≡ flat_map macro_in (map item_view l.fn.items.items);
  named : AreByName l.macros;
}
