use Rattle.std.proofs.Common.{◌≡◌, ◌++◌, map}
use Rattle.std.specs.List.{flat_map}
use Rattle.lalrpop_norm_tree.specs.Items.{item_view}
use Rattle.lalrpop_norm_model.specs.LevelRules.{level_items}
use Rattle.lalrpop_norm_precedence_steps.specs.LevelFaults.{item_level_faults}
use Rattle.lalrpop_norm_precedence.specs.MadeNames.{item_made_names}
use Rattle.lalrpop_norm_precedence.proofs.precedence.grammar.expand_items.Given as goal

abbrev pub invariant-loop-item : goal.invariant-loop-item
invariant-loop-item l = record {
  faults : flat_map item_level_faults (map item_view l.item-iterator.rest.items) ≡ flat_map item_level_faults (map item_view l.fn.items.items);
  value : map item_view l.made.items ++ flat_map level_items (map item_view l.item-iterator.rest.items)
      ≡ flat_map level_items (map item_view l.fn.items.items);
  names : l.names.items ++ flat_map item_made_names (map item_view l.item-iterator.rest.items)
      ≡ l.initial.names.items ++ flat_map item_made_names (map item_view l.fn.items.items);
}
