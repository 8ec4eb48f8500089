use Rattle.std.proofs.Common.{◌+◌, map, drop, arith, refl}
use borrow.Author.Count.{falls}
use Rattle.lalrpop_norm_tree_patterns.specs.MappedPatterns.{chosen_in_pattern, chosen_in_all, chosen_in_fields}
use Rattle.lalrpop_norm_tree_patterns.specs.Patterns.{pattern_view, field_view, patterns_view, fields_view}
use Rattle.lalrpop_norm_tree_patterns.proofs.PatternWalks.{patterns_places, fields_places, drop_more, none_left, pattern_places, field_places, enum_places, struct_places, tuple_places, tuple_struct_places, path_more, number_more, underscore_more, dot_dot_more, character_more, text_more, chosen_more}
use Rattle.lalrpop_norm_tree_patterns.proofs.PatternSizes.{to_kind, to_pattern, to_one, to_one_field, to_enum, to_struct, to_tuple, to_tuple_struct}
use Rattle.lalrpop_norm_tree_patterns.proofs.pattern.bindings.+bindings.Goals as goal

pub add_chosen-returns : goal.add_chosen-returns
add_chosen-returns g t c = rw (pattern_places c.args.pattern.now) c.add_chosen_of_kind.ensures

pub add_chosen_of_field-returns : goal.add_chosen_of_field-returns
add_chosen_of_field-returns g t c = rw (field_places c.args.field.now) c.add_chosen.ensures

pub add_chosen_of_kind-returns-in-Enum : goal.add_chosen_of_kind-returns-in-Enum
add_chosen_of_kind-returns-in-Enum g t c = rw (enum_places _ _ _ c.in-Enum.is, ← c.deref.ensures.value) c.add_chosen_of_all.ensures

pub add_chosen_of_kind-returns-in-Struct : goal.add_chosen_of_kind-returns-in-Struct
add_chosen_of_kind-returns-in-Struct g t c = rw (struct_places _ _ _ _ c.in-Struct.is, ← c.deref-in-Struct.ensures.value) c.add_chosen_of_fields.ensures

pub add_chosen_of_kind-returns-in-Path : goal.add_chosen_of_kind-returns-in-Path
add_chosen_of_kind-returns-in-Path g t c = path_more _ _ _ c.in-Path.is

pub add_chosen_of_kind-returns-in-Tuple : goal.add_chosen_of_kind-returns-in-Tuple
add_chosen_of_kind-returns-in-Tuple g t c = rw (tuple_places _ _ c.in-Tuple.is, ← c.deref-in-Tuple.ensures.value) c.add_chosen_of_all-in-Tuple.ensures

pub add_chosen_of_kind-returns-in-TupleStruct : goal.add_chosen_of_kind-returns-in-TupleStruct
add_chosen_of_kind-returns-in-TupleStruct g t c = rw (tuple_struct_places _ _ _ c.in-TupleStruct.is, ← c.deref-in-TupleStruct.ensures.value) c.add_chosen_of_all-in-TupleStruct.ensures

pub add_chosen_of_kind-returns-in-Usize : goal.add_chosen_of_kind-returns-in-Usize
add_chosen_of_kind-returns-in-Usize g t c = number_more _ _ _ c.in-Usize.is

pub add_chosen_of_kind-returns-in-Underscore : goal.add_chosen_of_kind-returns-in-Underscore
add_chosen_of_kind-returns-in-Underscore g t c = underscore_more _ _ c.in-Underscore.is

pub add_chosen_of_kind-returns-in-DotDot : goal.add_chosen_of_kind-returns-in-DotDot
add_chosen_of_kind-returns-in-DotDot g t c = dot_dot_more _ _ c.in-DotDot.is

pub add_chosen_of_kind-returns-in-Choose : goal.add_chosen_of_kind-returns-in-Choose
add_chosen_of_kind-returns-in-Choose g t c = chosen_more _ _ _ _ _ c.in-Choose.is c.add.ensures

pub add_chosen_of_kind-returns-in-CharLiteral : goal.add_chosen_of_kind-returns-in-CharLiteral
add_chosen_of_kind-returns-in-CharLiteral g t c = character_more _ _ _ c.in-CharLiteral.is

pub add_chosen_of_kind-returns-in-String : goal.add_chosen_of_kind-returns-in-String
add_chosen_of_kind-returns-in-String g t c = text_more _ _ _ c.in-String.is

pub add_chosen_of_all-loop-pattern-preserved : goal.add_chosen_of_all-loop-pattern-preserved
add_chosen_of_all-loop-pattern-preserved g t c =
    let i = c.loop-pattern.pattern-index in
    rw (patterns_places (drop (i + 1) c.args.patterns.now))
    (drop_more (λ p. chosen_in_pattern (pattern_view (λ t. t) p)) c.args.patterns.now i c.pattern-item.result (map (λ t. t.now) c.loop-pattern.all.items) _ _ (omega arith)
    (rw (← patterns_places (drop i c.args.patterns.now)) c.loop-pattern.invariant) (rw (← c.pattern-item.is) c.in_ok-add_chosen.ensures))

pub add_chosen_of_all-returns : goal.add_chosen_of_all-returns
add_chosen_of_all-returns g t c =
    none_left (λ ps. chosen_in_all (patterns_view (λ t. t) ps)) c.args.patterns.now c.loop-pattern.pattern-index _ _ (omega arith) refl c.loop-pattern.invariant

pub add_chosen_of_fields-loop-field-preserved : goal.add_chosen_of_fields-loop-field-preserved
add_chosen_of_fields-loop-field-preserved g t c =
    let i = c.loop-field.field-index in
    rw (fields_places (drop (i + 1) c.args.fields.now))
    (drop_more (λ d. chosen_in_pattern (field_view (λ t. t) d).pattern) c.args.fields.now i c.field-item.result (map (λ t. t.now) c.loop-field.all.items) _ _ (omega arith)
    (rw (← fields_places (drop i c.args.fields.now)) c.loop-field.invariant) (rw (← c.field-item.is) c.in_ok-add_chosen_of_field.ensures))

pub add_chosen_of_fields-returns : goal.add_chosen_of_fields-returns
add_chosen_of_fields-returns g t c =
    none_left (λ fs. chosen_in_fields (fields_view (λ t. t) fs)) c.args.fields.now c.loop-field.field-index _ _ (omega arith) refl c.loop-field.invariant

pub add_chosen-add_chosen_of_kind-requires : goal.add_chosen-add_chosen_of_kind-requires
add_chosen-add_chosen_of_kind-requires g t c = λ κs out. (to_kind t c.args.pattern.now c.decreases, out)

pub add_chosen_of_field-add_chosen-requires : goal.add_chosen_of_field-add_chosen-requires
add_chosen_of_field-add_chosen-requires g t c = λ κs out. (to_pattern t c.args.field.now c.decreases, out)

pub add_chosen_of_kind-add_chosen_of_all-requires : goal.add_chosen_of_kind-add_chosen_of_all-requires
add_chosen_of_kind-add_chosen_of_all-requires g t c = λ κs out. (to_enum t _ _ _ _ c.in-Enum.is c.deref.ensures.value c.decreases, out)

pub add_chosen_of_kind-add_chosen_of_fields-requires : goal.add_chosen_of_kind-add_chosen_of_fields-requires
add_chosen_of_kind-add_chosen_of_fields-requires g t c = λ κs out. (to_struct t _ _ _ _ _ c.in-Struct.is c.deref-in-Struct.ensures.value c.decreases, out)

pub add_chosen_of_kind-add_chosen_of_all-requires-in-Tuple : goal.add_chosen_of_kind-add_chosen_of_all-requires-in-Tuple
add_chosen_of_kind-add_chosen_of_all-requires-in-Tuple g t c = λ κs out. (to_tuple t _ _ _ c.in-Tuple.is c.deref-in-Tuple.ensures.value c.decreases, out)

pub add_chosen_of_kind-add_chosen_of_all-requires-in-TupleStruct : goal.add_chosen_of_kind-add_chosen_of_all-requires-in-TupleStruct
add_chosen_of_kind-add_chosen_of_all-requires-in-TupleStruct g t c = λ κs out. (to_tuple_struct t _ _ _ _ c.in-TupleStruct.is c.deref-in-TupleStruct.ensures.value c.decreases, out)

pub add_chosen_of_all-add_chosen-requires : goal.add_chosen_of_all-add_chosen-requires
add_chosen_of_all-add_chosen-requires g t c = λ κs out. (to_one t _ _ _ c.loop-pattern-test.true c.pattern-item.is c.decreases, out)

pub add_chosen_of_fields-add_chosen_of_field-requires : goal.add_chosen_of_fields-add_chosen_of_field-requires
add_chosen_of_fields-add_chosen_of_field-requires g t c = λ κs out. (to_one_field t _ _ _ c.loop-field-test.true c.field-item.is c.decreases, out)

pub add_chosen_of_all-loop-pattern-init : goal.add_chosen_of_all-loop-pattern-init
add_chosen_of_all-loop-pattern-init g t c = refl

pub add_chosen_of_fields-loop-field-init : goal.add_chosen_of_fields-loop-field-init
add_chosen_of_fields-loop-field-init g t c = refl

pub add_chosen_of_all-loop-pattern-smaller : goal.add_chosen_of_all-loop-pattern-smaller
add_chosen_of_all-loop-pattern-smaller g t c = falls _ _ c.loop-pattern-test.true

pub add_chosen_of_fields-loop-field-smaller : goal.add_chosen_of_fields-loop-field-smaller
add_chosen_of_fields-loop-field-smaller g t c = falls _ _ c.loop-field-test.true
