use Rattle.std.proofs.Common.{◌∷◌, [], length, option_map, map, ◌+◌, ◌*◌}
use Rattle.std.specs.Prelude.{codes}
use Rattle.json_records.specs.Reading.{list_form}
use Rattle.json_records.specs.Variants.{VariantSoFar}
use Rattle.lalrpop_norm_tree.specs.Symbols.{argument_pattern_view}
use Rattle.lalrpop_norm_json.specs.SymbolForms.{argument_pattern_form}
use Rattle.lalrpop_norm_json.specs.Shapes as shape
use Rattle.lalrpop_norm_json.specs.Shapes.{is, many}
use Rattle.lalrpop_norm_json.proofs.Loops.{RecordSoFar, ListSoFar}
use Rattle.lalrpop_norm_json.proofs.tree.tuples.+tuple.Given as goal

abbrev pub decreases-argument_pattern : goal.decreases-argument_pattern
decreases-argument_pattern l = 2 * length l.reader.now

abbrev pub decreases-argument_pattern_of : goal.decreases-argument_pattern_of
decreases-argument_pattern_of l = 2 * length l.reader.now + 1

abbrev pub decreases-tuple : goal.decreases-tuple
decreases-tuple l = 2 * length l.reader.now

abbrev pub decreases-argument_patterns : goal.decreases-argument_patterns
decreases-argument_patterns l = 2 * length l.reader.now

abbrev pub invariant-argument_pattern-loop-read : goal.invariant-argument_pattern-loop-read
invariant-argument_pattern-loop-read l = VariantSoFar (λ p. argument_pattern_form (argument_pattern_view p)) (is shape.argument_pattern) l.depth l.fn.reader l.reader (option_map (λ s. s.now) l.before) l.strays l.read

abbrev pub decreases-argument_pattern-loop-read : goal.decreases-argument_pattern-loop-read
decreases-argument_pattern-loop-read l = length l.reader

abbrev pub invariant-tuple-loop-tuples : goal.invariant-tuple-loop-tuples
invariant-tuple-loop-tuples l =
    RecordSoFar ((codes "tuples", many shape.argument_pattern) ∷ []) l.depth l.fn.reader l.reader
    (option_map (λ xs. list_form (map (λ p. argument_pattern_form (argument_pattern_view p)) xs.items)) l.tuples ∷ []) l.strays

abbrev pub decreases-tuple-loop-tuples : goal.decreases-tuple-loop-tuples
decreases-tuple-loop-tuples l = length l.reader

abbrev pub invariant-argument_patterns-loop-list : goal.invariant-argument_patterns-loop-list
invariant-argument_patterns-loop-list l = ListSoFar (λ p. argument_pattern_form (argument_pattern_view p)) (is shape.argument_pattern) l.depth l.fn.reader l.reader l.good l.list.items

abbrev pub decreases-argument_patterns-loop-list : goal.decreases-argument_patterns-loop-list
decreases-argument_patterns-loop-list l = length l.reader
