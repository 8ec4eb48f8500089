use Rattle.std.proofs.Common.{◌≡◌, ◌++◌, ◌≤◌, drop, map}
use Rattle.lalrpop_norm_tree.specs.Symbols.{parts_view, argument_pattern_view}
use Rattle.lalrpop_norm_lower.specs.Naming.{patterns_from, argument_patterns}
use Rattle.lalrpop_norm_lower.proofs.arguments.argument_patterns.Given as goal

abbrev pub invariant-loop-symbol : goal.invariant-loop-symbol
invariant-loop-symbol l =
    (map argument_pattern_view l.patterns.items ++ patterns_from l.prefix l.sources.some_named l.sources.some_chosen l.number (parts_view (drop l.symbol-index l.symbols)) ≡ argument_patterns l.prefix (parts_view l.symbols))
    × (l.number ≤ l.symbol-index)
