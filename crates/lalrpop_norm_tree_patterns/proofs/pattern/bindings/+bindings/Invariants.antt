use Rattle.std.proofs.Common.{◌≡◌, ◌++◌, map, drop}
use Rattle.lalrpop_norm_tree_patterns.specs.MappedPatterns.{chosen_in_all, chosen_in_fields}
use Rattle.lalrpop_norm_tree_patterns.specs.Patterns.{patterns_view, fields_view}
use Rattle.lalrpop_norm_tree_patterns.proofs.pattern.bindings.+bindings.Given as goal

abbrev pub invariant-add_chosen_of_all-loop-pattern : goal.invariant-add_chosen_of_all-loop-pattern
invariant-add_chosen_of_all-loop-pattern g l =
    map (λ t. t.now) l.all.items ++ chosen_in_all (patterns_view (λ t. t) (drop l.pattern-index l.patterns)) ≡ map (λ t. t.now) l.fn.all.items ++ chosen_in_all (patterns_view (λ t. t) l.patterns)

abbrev pub invariant-add_chosen_of_fields-loop-field : goal.invariant-add_chosen_of_fields-loop-field
invariant-add_chosen_of_fields-loop-field g l =
    map (λ t. t.now) l.all.items ++ chosen_in_fields (fields_view (λ t. t) (drop l.field-index l.fields)) ≡ map (λ t. t.now) l.fn.all.items ++ chosen_in_fields (fields_view (λ t. t) l.fields)
