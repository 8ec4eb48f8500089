use Rattle.std.proofs.Common.{◌≡◌, ◌++◌, drop, map}
use Rattle.std.specs.Prelude.{filter_map, string_bytes}
use Rattle.lalrpop_norm_tree.specs.Items.{item_view}
use Rattle.lalrpop_norm_lower.specs.Carried.{use_of}
use Rattle.lalrpop_norm_lower.proofs.head.uses_of.Given as goal

abbrev pub invariant-loop-item : goal.invariant-loop-item
invariant-loop-item l = map string_bytes l.uses.items ++ filter_map use_of (map item_view (drop l.item-index l.items)) ≡ filter_map use_of (map item_view l.items)
