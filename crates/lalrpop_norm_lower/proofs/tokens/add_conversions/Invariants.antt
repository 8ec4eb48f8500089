use Rattle.std.proofs.Common.{◌≡◌, ◌++◌, drop, map}
use Rattle.std.specs.Map.{keys_of}
use Rattle.lalrpop_norm_tree.specs.Items.{conversion_view}
use Rattle.lalrpop_norm_tree_patterns.specs.Patterns.{pattern_view}
use Rattle.lalrpop_norm_tree_parts.specs.Reprs.{repr_view}
use Rattle.lalrpop_norm_common.specs.Sessions.{features_view}
use Rattle.lalrpop_norm_repr.specs.Tables.{rows}
use Rattle.lalrpop_norm_lower.specs.Conversions.{sorted_terminals}
use Rattle.lalrpop_norm_lower.specs.Made.{conversion_rows}
use Rattle.lalrpop_norm_lower.proofs.tokens.add_conversions.Given as goal

abbrev pub invariant-loop-conversion : goal.invariant-loop-conversion
invariant-loop-conversion g l =
    (l.tokens.all.items ++ keys_of (conversion_rows (features_view l.session.features) (map conversion_view (drop l.conversion-index l.conversions))) ≡ l.initial.tokens.all.items ++ keys_of (conversion_rows (features_view l.session.features) (map conversion_view l.conversions)))
    × (sorted_terminals (rows (pattern_view repr_view) l.tokens.patterns) (conversion_rows (features_view l.session.features) (map conversion_view (drop l.conversion-index l.conversions))) ≡ sorted_terminals (rows (pattern_view repr_view) l.initial.tokens.patterns) (conversion_rows (features_view l.session.features) (map conversion_view l.conversions)))
