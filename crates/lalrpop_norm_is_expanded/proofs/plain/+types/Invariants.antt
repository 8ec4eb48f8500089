use Rattle.std.proofs.Common.{◌≡◌, drop, map}
use Rattle.lalrpop_norm_tree.specs.Items.{item_view}
use Rattle.lalrpop_norm_tree.specs.Types.{types_view}
use Rattle.lalrpop_norm_is_expanded.specs.Plain.{are_usable_in}
use Rattle.lalrpop_norm_is_expanded.proofs.plain.+types.Given as goal

abbrev pub invariant-are_usable_in-loop-inner : goal.invariant-are_usable_in-loop-inner
invariant-are_usable_in-loop-inner l = are_usable_in (map item_view l.items) (types_view (drop l.inner-index l.types)) ≡ are_usable_in (map item_view l.items) (types_view l.types)
