use Rattle.std.proofs.Common.{◌≡◌, drop, map}
use Rattle.lalrpop_norm_tree.specs.Items.{item_view}
use Rattle.lalrpop_norm_tree.specs.Symbols.{parts_view}
use Rattle.lalrpop_norm_is_expanded.specs.Plain.{are_usable}
use Rattle.lalrpop_norm_is_expanded.proofs.plain.are_usable.Given as goal

abbrev pub invariant-loop-symbol : goal.invariant-loop-symbol
invariant-loop-symbol l = are_usable (map item_view l.items) (parts_view (drop l.symbol-index l.symbols)) ≡ are_usable (map item_view l.items) (parts_view l.symbols)
