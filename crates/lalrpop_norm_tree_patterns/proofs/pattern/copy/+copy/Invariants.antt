use Rattle.std.proofs.Common.{take}
use Rattle.lalrpop_norm_tree_patterns.specs.Patterns.{SamePatterns, SameFields, patterns_view, fields_view}
use Rattle.lalrpop_norm_tree_patterns.proofs.pattern.copy.+copy.Given as goal

abbrev pub invariant-copy_patterns-loop-pattern : goal.invariant-copy_patterns-loop-pattern
invariant-copy_patterns-loop-pattern g l = SamePatterns g.T.Clone.is_clone (patterns_view (λ t. t) (take l.pattern-index l.patterns)) (patterns_view (λ t. t) l.copies.items)

abbrev pub invariant-copy_fields-loop-field : goal.invariant-copy_fields-loop-field
invariant-copy_fields-loop-field g l = SameFields g.T.Clone.is_clone (fields_view (λ t. t) (take l.field-index l.fields)) (fields_view (λ t. t) l.copies.items)
