use Rattle.std.proofs.Common.{◌≡◌, drop, map}
use Rattle.lalrpop_norm_tree.specs.Items.{item_view}
use Rattle.lalrpop_norm_is_expanded.specs.Plain.{is_no_name_twice}
use Rattle.lalrpop_norm_is_expanded.proofs.plain.are_names_distinct.Given as goal

abbrev pub invariant-loop-i : goal.invariant-loop-i
invariant-loop-i l = is_no_name_twice (map item_view (drop l.i l.items)) ≡ is_no_name_twice (map item_view l.items)
