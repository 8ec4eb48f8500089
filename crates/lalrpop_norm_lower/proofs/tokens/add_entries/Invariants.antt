use Rattle.std.proofs.Common.{◌≡◌, ◌++◌, drop}
use Rattle.std.specs.Map.{keys_of}
use Rattle.lalrpop_norm_tree_patterns.specs.Patterns.{pattern_view}
use Rattle.lalrpop_norm_tree_parts.specs.Reprs.{repr_view}
use Rattle.lalrpop_norm_repr.specs.Tables.{rows}
use Rattle.lalrpop_norm_lower.specs.Conversions.{sorted_terminals}
use Rattle.lalrpop_norm_lower.specs.Made.{entry_rows_from}
use Rattle.lalrpop_norm_lower.proofs.tokens.add_entries.Given as goal

abbrev pub invariant-loop-index : goal.invariant-loop-index
invariant-loop-index l =
    (l.tokens.all.items ++ keys_of (entry_rows_from l.span l.index (drop l.index l.entries)) ≡ l.initial.tokens.all.items ++ keys_of (entry_rows_from l.span 0 l.entries))
    × (sorted_terminals (rows (pattern_view repr_view) l.tokens.patterns) (entry_rows_from l.span l.index (drop l.index l.entries)) ≡ sorted_terminals (rows (pattern_view repr_view) l.initial.tokens.patterns) (entry_rows_from l.span 0 l.entries))
