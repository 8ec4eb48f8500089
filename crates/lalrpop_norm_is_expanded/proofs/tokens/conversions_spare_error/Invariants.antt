use Rattle.std.proofs.Common.{◌≡◌, drop, map}
use Rattle.std.specs.List.{list_all}
use Rattle.lalrpop_norm_tree.specs.Items.{conversion_view}
use Rattle.lalrpop_norm_is_expanded.specs.Tokens.{conversion_spares_error}
use Rattle.lalrpop_norm_is_expanded.proofs.tokens.conversions_spare_error.Given as goal

abbrev pub invariant-loop-conversion : goal.invariant-loop-conversion
invariant-loop-conversion l = list_all conversion_spares_error (map conversion_view (drop l.conversion-index l.conversions)) ≡ list_all conversion_spares_error (map conversion_view l.conversions)
