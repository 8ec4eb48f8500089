use Rattle.std.proofs.Common.{◌≡◌, drop}
use Rattle.lalrpop_norm_tree.specs.Types.{type_view}
use Rattle.lalrpop_norm_tree_patterns.specs.Patterns.{patterns_view, fields_view}
use Rattle.lalrpop_norm_prevalidate.specs.TypeFaults.{patterns_hold, fields_hold}
use Rattle.lalrpop_norm_prevalidate.proofs.prevalidate.types.+patterns.Given as goal

abbrev pub invariant-patterns_hold-loop-pattern : goal.invariant-patterns_hold-loop-pattern
invariant-patterns_hold-loop-pattern l = patterns_hold (patterns_view type_view (drop l.pattern-index l.patterns)) ≡ patterns_hold (patterns_view type_view l.patterns)

abbrev pub invariant-fields_hold-loop-field : goal.invariant-fields_hold-loop-field
invariant-fields_hold-loop-field l = fields_hold (fields_view type_view (drop l.field-index l.fields)) ≡ fields_hold (fields_view type_view l.fields)
