use Rattle.std.proofs.Common.{◌≡◌, ◌++◌, [], drop, map}
use Rattle.std.specs.Prelude.{flat_map}
use Rattle.std.specs.Map.{keys_of}
use Rattle.lalrpop_norm_tree.specs.Items.{item_view}
use Rattle.lalrpop_norm_tree_patterns.specs.Patterns.{pattern_view}
use Rattle.lalrpop_norm_tree_parts.specs.Reprs.{repr_view}
use Rattle.lalrpop_norm_common.specs.Sessions.{features_view}
use Rattle.lalrpop_norm_repr.specs.Tables.{rows}
use Rattle.lalrpop_norm_lower.specs.Conversions.{sorted_terminals}
use Rattle.lalrpop_norm_lower.specs.Made.{token_rows}
use Rattle.lalrpop_norm_lower.proofs.tokens.tokens_of.Given as goal

abbrev pub invariant-loop-item : goal.invariant-loop-item
invariant-loop-item g l =
    (l.tokens.all.items ++ keys_of (flat_map (token_rows (features_view l.session.features) l.span) (map item_view (drop l.item-index l.items))) ≡ keys_of (flat_map (token_rows (features_view l.session.features) l.span) (map item_view l.items)))
    × (sorted_terminals (rows (pattern_view repr_view) l.tokens.patterns) (flat_map (token_rows (features_view l.session.features) l.span) (map item_view (drop l.item-index l.items))) ≡ sorted_terminals [] (flat_map (token_rows (features_view l.session.features) l.span) (map item_view l.items)))
