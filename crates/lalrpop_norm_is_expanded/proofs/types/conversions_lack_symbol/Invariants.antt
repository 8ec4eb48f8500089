use Rattle.std.proofs.Common.{◌≡◌, drop, map}
use Rattle.std.specs.List.{list_all}
use Rattle.lalrpop_norm_tree.specs.Items.{conversion_view}
use Rattle.lalrpop_norm_is_expanded.specs.Types.{conversion_lacks_symbol}
use Rattle.lalrpop_norm_is_expanded.proofs.types.conversions_lack_symbol.Given as goal

abbrev pub invariant-loop-conversion : goal.invariant-loop-conversion
invariant-loop-conversion l = list_all conversion_lacks_symbol (map conversion_view (drop l.conversion-index l.conversions)) ≡ list_all conversion_lacks_symbol (map conversion_view l.conversions)
