use Rattle.std.proofs.Common.{◌≡◌, ◌++◌, map, drop}
use Rattle.std.specs.List.{flat_map}
use Rattle.lalrpop_norm_tree.specs.Items.{conversion_view}
use Rattle.lalrpop_norm_prevalidate.specs.MalformedCfgs.{malformed_on_conversion}
use Rattle.lalrpop_norm_prevalidate.proofs.prevalidate.malformed.add_conversions.Given as goal

abbrev pub invariant-loop-conversion : goal.invariant-loop-conversion
invariant-loop-conversion l =
    l.spans.items ++ flat_map malformed_on_conversion (map conversion_view (drop l.conversion-index l.conversions)) ≡ l.initial.spans.items ++ flat_map malformed_on_conversion (map conversion_view l.conversions)
