use Rattle.std.proofs.Common.{◌≡◌, drop, map}
use Rattle.std.specs.List.{list_all}
use Rattle.lalrpop_norm_tree.specs.Items.{item_view}
use Rattle.lalrpop_norm_common.specs.Sessions.{features_view}
use Rattle.lalrpop_norm_is_typed.specs.Terminals.{source_view}
use Rattle.lalrpop_norm_is_typed.specs.Used.{is_item_listed}
use Rattle.lalrpop_norm_is_typed.proofs.used.are_items_listed.Given as goal

abbrev pub invariant-loop-item : goal.invariant-loop-item
invariant-loop-item g l = list_all (is_item_listed (features_view l.session.features) (source_view l.source)) (map item_view (drop l.item-index l.items)) ≡ list_all (is_item_listed (features_view l.session.features) (source_view l.source)) (map item_view l.items)
