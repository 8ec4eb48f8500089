use Rattle.std.proofs.Common.{◌≡◌, map, take}
use Rattle.lalrpop_norm_tree.specs.Items.{conversion_view}
use Rattle.lalrpop_norm_tree.proofs.items.copy_grammar.copy_conversions.Given as goal

abbrev pub invariant-loop-conversion : goal.invariant-loop-conversion
invariant-loop-conversion l = map conversion_view l.copies.items ≡ map conversion_view (take l.conversion-index l.conversions)
