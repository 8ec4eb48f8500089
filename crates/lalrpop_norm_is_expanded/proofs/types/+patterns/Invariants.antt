use Rattle.std.proofs.Common.{◌≡◌, drop}
use Rattle.lalrpop_norm_tree_patterns.specs.Patterns.{fields_view, patterns_view}
use Rattle.lalrpop_norm_tree.specs.Types.{type_view}
use Rattle.lalrpop_norm_is_expanded.specs.Types.{fields_lack_symbol, patterns_lack_symbol}
use Rattle.lalrpop_norm_is_expanded.proofs.types.+patterns.Given as goal

abbrev pub invariant-patterns_lack_symbol-loop-pattern : goal.invariant-patterns_lack_symbol-loop-pattern
invariant-patterns_lack_symbol-loop-pattern l = patterns_lack_symbol (patterns_view type_view (drop l.pattern-index l.patterns)) ≡ patterns_lack_symbol (patterns_view type_view l.patterns)

abbrev pub invariant-fields_lack_symbol-loop-field : goal.invariant-fields_lack_symbol-loop-field
invariant-fields_lack_symbol-loop-field l = fields_lack_symbol (fields_view type_view (drop l.field-index l.fields)) ≡ fields_lack_symbol (fields_view type_view l.fields)
