use Rattle.std.proofs.Common.{◌≡◌, drop, map}
use Rattle.std.specs.List.{list_all}
use Rattle.lalrpop_norm_tree.specs.Items.{item_view}
use Rattle.lalrpop_norm_repr.specs.Tables.{type_table}
use Rattle.lalrpop_norm_is_typed.specs.Rules.{is_item_typed}
use Rattle.lalrpop_norm_is_typed.proofs.rules.are_rules_typed.Given as goal

abbrev pub invariant-loop-item : goal.invariant-loop-item
invariant-loop-item l = list_all (is_item_typed (type_table l.types)) (map item_view (drop l.item-index l.items)) ≡ list_all (is_item_typed (type_table l.types)) (map item_view l.items)
