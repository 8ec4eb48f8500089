use Rattle.std.proofs.Common.{◌≡◌, drop, map}
use Rattle.std.specs.List.{list_all}
use Rattle.lalrpop_norm_tree.specs.Items.{alternative_view, item_view}
use Rattle.lalrpop_norm_is_expanded.specs.Plain.{is_usable_alternative}
use Rattle.lalrpop_norm_is_expanded.proofs.plain.are_alternatives_usable.Given as goal

abbrev pub invariant-loop-alternative : goal.invariant-loop-alternative
invariant-loop-alternative l = list_all (is_usable_alternative (map item_view l.items)) (map alternative_view (drop l.alternative-index l.alternatives)) ≡ list_all (is_usable_alternative (map item_view l.items)) (map alternative_view l.alternatives)
