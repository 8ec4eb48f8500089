use Rattle.std.proofs.Common.{◌≡◌, ◌++◌, map}
use Rattle.lalrpop_norm_tree_patterns.specs.Patterns.{pattern_view}
use Rattle.lalrpop_norm_tree_parts.specs.Reprs.{repr_view}
use Rattle.lalrpop_norm_repr.specs.Tables.{rows}
use Rattle.lalrpop_norm_repr.proofs.whole.copy.copy_conversions.Given as goal

abbrev pub invariant-loop-terminal : goal.invariant-loop-terminal
invariant-loop-terminal l = rows (pattern_view repr_view) l.copies ++ map (λ e. (e.0, pattern_view repr_view e.1)) l.terminal-iterator ≡ rows (pattern_view repr_view) l.conversions
