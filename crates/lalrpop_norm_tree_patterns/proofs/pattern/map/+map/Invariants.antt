use Rattle.std.proofs.Common.{◌≡◌, map, take}
use Rattle.std.specs.Fn.{CalledAt}
use Rattle.std.specs.Prelude.{flat_map}
use Rattle.lalrpop_norm_tree_patterns.specs.MappedPatterns.{pattern_shape, field_shape, chosen_in_pattern}
use Rattle.lalrpop_norm_tree_patterns.specs.Patterns.{pattern_view, field_view}
use Rattle.lalrpop_norm_tree_parts.specs.Walks.{Answered}
use Rattle.lalrpop_norm_tree_patterns.proofs.pattern.map.+map.Given as goal

abbrev pub invariant-map_patterns-loop-pattern : goal.invariant-map_patterns-loop-pattern
invariant-map_patterns-loop-pattern g l =
    goal.F-IsAlwaysCallable g l.f
    × (map (λ p. pattern_shape (pattern_view (λ u. u) p)) l.mapped.items ≡ map (λ p. pattern_shape (pattern_view (λ t. t) p)) (take l.pattern-index l.patterns))
    × Answered (CalledAt g.F.FnMut) l.fn.f (flat_map (λ p. chosen_in_pattern (pattern_view (λ t. t) p)) (take l.pattern-index l.patterns)) (flat_map (λ p. chosen_in_pattern (pattern_view (λ u. u) p)) l.mapped.items) l.f

abbrev pub invariant-map_fields-loop-field : goal.invariant-map_fields-loop-field
invariant-map_fields-loop-field g l =
    goal.F-IsAlwaysCallable g l.f
    × (map (λ d. field_shape (field_view (λ u. u) d)) l.mapped.items ≡ map (λ d. field_shape (field_view (λ t. t) d)) (take l.field-index l.fields))
    × Answered (CalledAt g.F.FnMut) l.fn.f (flat_map (λ d. chosen_in_pattern (field_view (λ t. t) d).pattern) (take l.field-index l.fields)) (flat_map (λ d. chosen_in_pattern (field_view (λ u. u) d).pattern) l.mapped.items) l.f
