use Rattle.std.proofs.Common.{arith, refl}
use Rattle.std.proofs.lemmas.Result.{IfOk-from_err}
use borrow.Author.Count.{falls}
use Rattle.std.specs.Fn.{CalledAt}
use Rattle.lalrpop_norm_tree_patterns.specs.MappedPatterns.{pattern_shape, field_shape, chosen_in_pattern}
use Rattle.lalrpop_norm_tree_patterns.specs.Patterns.{pattern_view, field_view}
use Rattle.lalrpop_norm_tree_patterns.proofs.PatternWalks.{patterns_places, fields_places, patterns_kept, fields_kept, patterns_answered, fields_answered, enum_places, struct_places, tuple_places, tuple_struct_places, chosen_places, pattern_places, field_places, pattern_kept, field_kept, enum_mapped, struct_mapped, tuple_mapped, tuple_struct_mapped, chosen_mapped, path_mapped, number_mapped, underscore_mapped, dot_dot_mapped, character_mapped, text_mapped}
use Rattle.lalrpop_norm_tree_parts.proofs.WalkLemmas.{if_err_is, if_err_has, wanting, shape_more, loop_answered, loop_ended, loop_wanting}
use Rattle.lalrpop_norm_tree_patterns.proofs.PatternSizes.{to_kind, to_pattern, to_one, to_one_field, to_enum, to_struct, to_tuple, to_tuple_struct}
use Rattle.lalrpop_norm_tree_patterns.proofs.pattern.map.+map.Goals as goal

pub map_field-returns-in_err-field_name : goal.map_field-returns-in_err-field_name
map_field-returns-in_err-field_name g t c = record {
  again = c.requires;
  kept = IfOk-from_err _ _ c.from_residual.ensures.0;
  answered = IfOk-from_err _ _ c.from_residual.ensures.0;
  ended = if_err_has (g.E.From.from_gives record {}) _ _ c.from_residual.ensures.1 (λ e m. wanting (CalledAt g.F.FnMut) (g.E.From.from_gives record {}) c.args.f.now _ e m);
}

pub map_field-returns-in_err-pattern : goal.map_field-returns-in_err-pattern
map_field-returns-in_err-pattern g t c = record {
  again = c.map_pattern.ensures.again;
  kept = IfOk-from_err _ _ c.from_residual-in_err-pattern.ensures.0;
  answered = IfOk-from_err _ _ c.from_residual-in_err-pattern.ensures.0;
  ended = if_err_is _ _ _ c.from_residual-in_err-pattern.ensures.1 (rw (field_places c.args.field.now) c.in_err-pattern.ensures.ended);
}

pub map_field-returns : goal.map_field-returns
map_field-returns g t c = record {
  again = c.map_pattern.ensures.again;
  kept = field_kept c.args.field.now _ refl c.in_ok-field_name.ensures c.in_ok-pattern.ensures.kept;
  answered = rw (field_places c.args.field.now, field_places) c.in_ok-pattern.ensures.answered;
  ended = tt;
}

pub map_pattern-returns-in_err-kind : goal.map_pattern-returns-in_err-kind
map_pattern-returns-in_err-kind g t c = record {
  again = c.map_kind.ensures.again;
  kept = IfOk-from_err _ _ c.from_residual.ensures.0;
  answered = IfOk-from_err _ _ c.from_residual.ensures.0;
  ended = if_err_is _ _ _ c.from_residual.ensures.1 (rw (pattern_places c.args.pattern.now) c.in_err-kind.ensures.ended);
}

pub map_pattern-returns : goal.map_pattern-returns
map_pattern-returns g t c = record {
  again = c.map_kind.ensures.again;
  kept = pattern_kept c.args.pattern.now _ refl c.in_ok-kind.ensures.kept;
  answered = rw (pattern_places c.args.pattern.now, pattern_places) c.in_ok-kind.ensures.answered;
  ended = tt;
}

pub map_kind-returns-in_err-path-in-Enum : goal.map_kind-returns-in_err-path-in-Enum
map_kind-returns-in_err-path-in-Enum g t c = record {
  again = c.requires;
  kept = IfOk-from_err _ _ c.from_residual.ensures.0;
  answered = IfOk-from_err _ _ c.from_residual.ensures.0;
  ended = if_err_has (g.E.From.from_gives record {}) _ _ c.from_residual.ensures.1 (λ e m. wanting (CalledAt g.F.FnMut) (g.E.From.from_gives record {}) c.args.f.now _ e m);
}

pub map_kind-returns-in_err-path-in-Struct : goal.map_kind-returns-in_err-path-in-Struct
map_kind-returns-in_err-path-in-Struct g t c = record {
  again = c.requires;
  kept = IfOk-from_err _ _ c.from_residual-in_err-path-in-Struct.ensures.0;
  answered = IfOk-from_err _ _ c.from_residual-in_err-path-in-Struct.ensures.0;
  ended = if_err_has (g.E.From.from_gives record {}) _ _ c.from_residual-in_err-path-in-Struct.ensures.1 (λ e m. wanting (CalledAt g.F.FnMut) (g.E.From.from_gives record {}) c.args.f.now _ e m);
}

pub map_kind-returns-in_err-same_path-in-Path : goal.map_kind-returns-in_err-same_path-in-Path
map_kind-returns-in_err-same_path-in-Path g t c = record {
  again = c.requires;
  kept = IfOk-from_err _ _ c.from_residual-in_err-same_path-in-Path.ensures.0;
  answered = IfOk-from_err _ _ c.from_residual-in_err-same_path-in-Path.ensures.0;
  ended = if_err_has (g.E.From.from_gives record {}) _ _ c.from_residual-in_err-same_path-in-Path.ensures.1 (λ e m. wanting (CalledAt g.F.FnMut) (g.E.From.from_gives record {}) c.args.f.now _ e m);
}

pub map_kind-returns-in_err-path-in-TupleStruct : goal.map_kind-returns-in_err-path-in-TupleStruct
map_kind-returns-in_err-path-in-TupleStruct g t c = record {
  again = c.requires;
  kept = IfOk-from_err _ _ c.from_residual-in_err-path-in-TupleStruct.ensures.0;
  answered = IfOk-from_err _ _ c.from_residual-in_err-path-in-TupleStruct.ensures.0;
  ended = if_err_has (g.E.From.from_gives record {}) _ _ c.from_residual-in_err-path-in-TupleStruct.ensures.1 (λ e m. wanting (CalledAt g.F.FnMut) (g.E.From.from_gives record {}) c.args.f.now _ e m);
}

pub map_kind-returns-in_err-same_name-in-CharLiteral : goal.map_kind-returns-in_err-same_name-in-CharLiteral
map_kind-returns-in_err-same_name-in-CharLiteral g t c = record {
  again = c.requires;
  kept = IfOk-from_err _ _ c.from_residual-in_err-same_name-in-CharLiteral.ensures.0;
  answered = IfOk-from_err _ _ c.from_residual-in_err-same_name-in-CharLiteral.ensures.0;
  ended = if_err_has (g.E.From.from_gives record {}) _ _ c.from_residual-in_err-same_name-in-CharLiteral.ensures.1 (λ e m. wanting (CalledAt g.F.FnMut) (g.E.From.from_gives record {}) c.args.f.now _ e m);
}

pub map_kind-returns-in_err-same_text-in-String : goal.map_kind-returns-in_err-same_text-in-String
map_kind-returns-in_err-same_text-in-String g t c = record {
  again = c.requires;
  kept = IfOk-from_err _ _ c.from_residual-in_err-same_text-in-String.ensures.0;
  answered = IfOk-from_err _ _ c.from_residual-in_err-same_text-in-String.ensures.0;
  ended = if_err_has (g.E.From.from_gives record {}) _ _ c.from_residual-in_err-same_text-in-String.ensures.1 (λ e m. wanting (CalledAt g.F.FnMut) (g.E.From.from_gives record {}) c.args.f.now _ e m);
}

pub map_kind-returns-in_err-inner-in-Enum : goal.map_kind-returns-in_err-inner-in-Enum
map_kind-returns-in_err-inner-in-Enum g t c = record {
  again = c.map_patterns.ensures.again;
  kept = IfOk-from_err _ _ c.from_residual-in_err-inner-in-Enum.ensures.0;
  answered = IfOk-from_err _ _ c.from_residual-in_err-inner-in-Enum.ensures.0;
  ended = if_err_is _ _ _ c.from_residual-in_err-inner-in-Enum.ensures.1 (rw (enum_places _ _ _ c.in-Enum.is, ← c.deref.ensures.value) c.in_err-inner-in-Enum.ensures.ended);
}

pub map_kind-returns-in_err-fields-in-Struct : goal.map_kind-returns-in_err-fields-in-Struct
map_kind-returns-in_err-fields-in-Struct g t c = record {
  again = c.map_fields.ensures.again;
  kept = IfOk-from_err _ _ c.from_residual-in_err-fields-in-Struct.ensures.0;
  answered = IfOk-from_err _ _ c.from_residual-in_err-fields-in-Struct.ensures.0;
  ended = if_err_is _ _ _ c.from_residual-in_err-fields-in-Struct.ensures.1 (rw (struct_places _ _ _ _ c.in-Struct.is, ← c.deref-in-Struct.ensures.value) c.in_err-fields-in-Struct.ensures.ended);
}

pub map_kind-returns-in_err-map_patterns-in-Tuple : goal.map_kind-returns-in_err-map_patterns-in-Tuple
map_kind-returns-in_err-map_patterns-in-Tuple g t c = record {
  again = c.map_patterns-in-Tuple.ensures.again;
  kept = IfOk-from_err _ _ c.from_residual-in_err-map_patterns-in-Tuple.ensures.0;
  answered = IfOk-from_err _ _ c.from_residual-in_err-map_patterns-in-Tuple.ensures.0;
  ended = if_err_is _ _ _ c.from_residual-in_err-map_patterns-in-Tuple.ensures.1 (rw (tuple_places _ _ c.in-Tuple.is, ← c.deref-in-Tuple.ensures.value) c.in_err-map_patterns-in-Tuple.ensures.ended);
}

pub map_kind-returns-in_err-inner-in-TupleStruct : goal.map_kind-returns-in_err-inner-in-TupleStruct
map_kind-returns-in_err-inner-in-TupleStruct g t c = record {
  again = c.map_patterns-in-TupleStruct.ensures.again;
  kept = IfOk-from_err _ _ c.from_residual-in_err-inner-in-TupleStruct.ensures.0;
  answered = IfOk-from_err _ _ c.from_residual-in_err-inner-in-TupleStruct.ensures.0;
  ended = if_err_is _ _ _ c.from_residual-in_err-inner-in-TupleStruct.ensures.1 (rw (tuple_struct_places _ _ _ c.in-TupleStruct.is, ← c.deref-in-TupleStruct.ensures.value) c.in_err-inner-in-TupleStruct.ensures.ended);
}

pub map_kind-returns-in_err-map_one-in-Choose : goal.map_kind-returns-in_err-map_one-in-Choose
map_kind-returns-in_err-map_one-in-Choose g t c = record {
  again = c.map_one.ensures.again;
  kept = IfOk-from_err _ _ c.from_residual-in_err-map_one-in-Choose.ensures.0;
  answered = IfOk-from_err _ _ c.from_residual-in_err-map_one-in-Choose.ensures.0;
  ended = if_err_is _ _ _ c.from_residual-in_err-map_one-in-Choose.ensures.1 (rw (chosen_places _ _ c.in-Choose.is) c.in_err-map_one-in-Choose.ensures.ended);
}

pub map_kind-returns-in_ok-inner-in-Enum : goal.map_kind-returns-in_ok-inner-in-Enum
map_kind-returns-in_ok-inner-in-Enum g t c =
    let mapped = enum_mapped (CalledAt g.F.FnMut) c.args.f.now _ _ _ c.in_ok-path-in-Enum.path _ c.in_ok-inner-in-Enum.inner _
    c.in-Enum.is c.deref.ensures.value c.in_ok-path-in-Enum.ensures c.in_ok-inner-in-Enum.ensures.kept c.in_ok-inner-in-Enum.ensures.answered in
    record { again = c.map_patterns.ensures.again; kept = mapped.0; answered = mapped.1; ended = tt }

pub map_kind-returns-in_ok-fields-in-Struct : goal.map_kind-returns-in_ok-fields-in-Struct
map_kind-returns-in_ok-fields-in-Struct g t c =
    let mapped = struct_mapped (CalledAt g.F.FnMut) c.args.f.now _ _ _ c.in_ok-path-in-Struct.path _ c.in_ok-fields-in-Struct.fields _ _
    c.in-Struct.is c.deref-in-Struct.ensures.value c.in_ok-path-in-Struct.ensures c.in_ok-fields-in-Struct.ensures.kept c.in_ok-fields-in-Struct.ensures.answered in
    record { again = c.map_fields.ensures.again; kept = mapped.0; answered = mapped.1; ended = tt }

pub map_kind-returns-in_ok-map_patterns-in-Tuple : goal.map_kind-returns-in_ok-map_patterns-in-Tuple
map_kind-returns-in_ok-map_patterns-in-Tuple g t c =
    let mapped = tuple_mapped (CalledAt g.F.FnMut) c.args.f.now _ _ _ c.in_ok-map_patterns-in-Tuple.field-0 _
    c.in-Tuple.is c.deref-in-Tuple.ensures.value c.in_ok-map_patterns-in-Tuple.ensures.kept c.in_ok-map_patterns-in-Tuple.ensures.answered in
    record { again = c.map_patterns-in-Tuple.ensures.again; kept = mapped.0; answered = mapped.1; ended = tt }

pub map_kind-returns-in_ok-inner-in-TupleStruct : goal.map_kind-returns-in_ok-inner-in-TupleStruct
map_kind-returns-in_ok-inner-in-TupleStruct g t c =
    let mapped = tuple_struct_mapped (CalledAt g.F.FnMut) c.args.f.now _ _ _ c.in_ok-path-in-TupleStruct.path _ c.in_ok-inner-in-TupleStruct.inner _
    c.in-TupleStruct.is c.deref-in-TupleStruct.ensures.value c.in_ok-path-in-TupleStruct.ensures c.in_ok-inner-in-TupleStruct.ensures.kept c.in_ok-inner-in-TupleStruct.ensures.answered in
    record { again = c.map_patterns-in-TupleStruct.ensures.again; kept = mapped.0; answered = mapped.1; ended = tt }

pub map_kind-returns-in_ok-map_one-in-Choose : goal.map_kind-returns-in_ok-map_one-in-Choose
map_kind-returns-in_ok-map_one-in-Choose g t c =
    let mapped = chosen_mapped (CalledAt g.F.FnMut) c.args.f.now _ _ _ _ c.in-Choose.is c.in_ok-map_one-in-Choose.ensures.answered in
    record { again = c.map_one.ensures.again; kept = mapped.0; answered = mapped.1; ended = tt }

pub map_kind-returns-in_ok-same_path-in-Path : goal.map_kind-returns-in_ok-same_path-in-Path
map_kind-returns-in_ok-same_path-in-Path g t c =
    let mapped = path_mapped (CalledAt g.F.FnMut) c.args.f.now c.args.f.now _ _ _ c.in-Path.is c.in_ok-same_path-in-Path.ensures refl in
    record { again = c.requires; kept = mapped.0; answered = mapped.1; ended = tt }

pub map_kind-returns-in-Usize : goal.map_kind-returns-in-Usize
map_kind-returns-in-Usize g t c =
    let mapped = number_mapped (CalledAt g.F.FnMut) c.args.f.now c.args.f.now _ _ c.in-Usize.is refl in
    record { again = c.requires; kept = mapped.0; answered = mapped.1; ended = tt }

pub map_kind-returns-in-Underscore : goal.map_kind-returns-in-Underscore
map_kind-returns-in-Underscore g t c =
    let mapped = underscore_mapped (CalledAt g.F.FnMut) c.args.f.now c.args.f.now _ c.in-Underscore.is refl in
    record { again = c.requires; kept = mapped.0; answered = mapped.1; ended = tt }

pub map_kind-returns-in-DotDot : goal.map_kind-returns-in-DotDot
map_kind-returns-in-DotDot g t c =
    let mapped = dot_dot_mapped (CalledAt g.F.FnMut) c.args.f.now c.args.f.now _ c.in-DotDot.is refl in
    record { again = c.requires; kept = mapped.0; answered = mapped.1; ended = tt }

pub map_kind-returns-in_ok-same_name-in-CharLiteral : goal.map_kind-returns-in_ok-same_name-in-CharLiteral
map_kind-returns-in_ok-same_name-in-CharLiteral g t c =
    let mapped = character_mapped (CalledAt g.F.FnMut) c.args.f.now c.args.f.now _ _ _ c.in-CharLiteral.is c.in_ok-same_name-in-CharLiteral.ensures refl in
    record { again = c.requires; kept = mapped.0; answered = mapped.1; ended = tt }

pub map_kind-returns-in_ok-same_text-in-String : goal.map_kind-returns-in_ok-same_text-in-String
map_kind-returns-in_ok-same_text-in-String g t c =
    let mapped = text_mapped (CalledAt g.F.FnMut) c.args.f.now c.args.f.now _ _ _ c.in-String.is c.in_ok-same_text-in-String.ensures refl in
    record { again = c.requires; kept = mapped.0; answered = mapped.1; ended = tt }

pub map_patterns-returns-in_err-map_pattern : goal.map_patterns-returns-in_err-map_pattern
map_patterns-returns-in_err-map_pattern g t c = record {
  again = c.map_pattern.ensures.again;
  kept = IfOk-from_err _ _ c.from_residual.ensures.0;
  answered = IfOk-from_err _ _ c.from_residual.ensures.0;
  ended = if_err_is _ _ _ c.from_residual.ensures.1
      (rw (patterns_places)
      (loop_ended (CalledAt g.F.FnMut) (λ p. chosen_in_pattern (pattern_view (λ t. t) p)) (λ p. chosen_in_pattern (pattern_view (λ u. u) p)) (g.E.From.from_gives record {})
      c.args.f.now c.loop-pattern.f c.map_pattern.new.f c.args.patterns.now c.loop-pattern.mapped.items c.loop-pattern.pattern-index c.pattern-item.result c.in_err-map_pattern.field-0.0
      (omega arith) c.loop-pattern.invariant.2 (rw (← c.pattern-item.is) c.in_err-map_pattern.ensures.ended)));
}

pub map_patterns-returns-in_err-add : goal.map_patterns-returns-in_err-add
map_patterns-returns-in_err-add g t c = record {
  again = c.map_pattern.ensures.again;
  kept = IfOk-from_err _ _ c.from_residual-in_err-add.ensures.0;
  answered = IfOk-from_err _ _ c.from_residual-in_err-add.ensures.0;
  ended = if_err_has (g.E.From.from_gives record {}) _ _ c.from_residual-in_err-add.ensures.1
      (λ e m. rw (patterns_places)
      (loop_wanting (CalledAt g.F.FnMut) (λ p. chosen_in_pattern (pattern_view (λ t. t) p)) (λ p. chosen_in_pattern (pattern_view (λ u. u) p)) (g.E.From.from_gives record {})
      c.args.f.now c.loop-pattern.f c.map_pattern.new.f c.args.patterns.now c.loop-pattern.mapped.items c.loop-pattern.pattern-index c.pattern-item.result c.in_ok-map_pattern.field-0 e
      (omega arith) c.loop-pattern.invariant.2 (rw (← c.pattern-item.is) c.in_ok-map_pattern.ensures.answered) m));
}

pub map_patterns-loop-pattern-preserved : goal.map_patterns-loop-pattern-preserved
map_patterns-loop-pattern-preserved g t c =
    rw (c.in_ok-add.ensures) (
      c.map_pattern.ensures.again,
      shape_more (λ p. pattern_shape (pattern_view (λ t. t) p)) (λ p. pattern_shape (pattern_view (λ u. u) p))
          c.args.patterns.now c.loop-pattern.mapped.items c.loop-pattern.pattern-index c.pattern-item.result c.in_ok-map_pattern.field-0
          (omega arith) c.loop-pattern.invariant.1 (rw (← c.pattern-item.is) c.in_ok-map_pattern.ensures.kept),
      loop_answered (CalledAt g.F.FnMut) (λ p. chosen_in_pattern (pattern_view (λ t. t) p)) (λ p. chosen_in_pattern (pattern_view (λ u. u) p))
          c.args.f.now c.loop-pattern.f c.map_pattern.new.f c.args.patterns.now c.loop-pattern.mapped.items c.loop-pattern.pattern-index c.pattern-item.result c.in_ok-map_pattern.field-0
          (omega arith) c.loop-pattern.invariant.2 (rw (← c.pattern-item.is) c.in_ok-map_pattern.ensures.answered),
    )

pub map_patterns-returns : goal.map_patterns-returns
map_patterns-returns g t c = record {
  again = c.loop-pattern.invariant.0;
  kept = patterns_kept c.loop-pattern.mapped.items c.args.patterns.now c.loop-pattern.pattern-index c.loop-pattern-test.false c.loop-pattern.invariant.1;
  answered = patterns_answered (CalledAt g.F.FnMut) c.args.f.now c.loop-pattern.f
      c.loop-pattern.mapped.items c.args.patterns.now c.loop-pattern.pattern-index c.loop-pattern-test.false c.loop-pattern.invariant.2;
  ended = tt;
}

pub map_fields-returns-in_err-map_field : goal.map_fields-returns-in_err-map_field
map_fields-returns-in_err-map_field g t c = record {
  again = c.map_field.ensures.again;
  kept = IfOk-from_err _ _ c.from_residual.ensures.0;
  answered = IfOk-from_err _ _ c.from_residual.ensures.0;
  ended = if_err_is _ _ _ c.from_residual.ensures.1
      (rw (fields_places)
      (loop_ended (CalledAt g.F.FnMut) (λ d. chosen_in_pattern (field_view (λ t. t) d).pattern) (λ d. chosen_in_pattern (field_view (λ u. u) d).pattern) (g.E.From.from_gives record {})
      c.args.f.now c.loop-field.f c.map_field.new.f c.args.fields.now c.loop-field.mapped.items c.loop-field.field-index c.field-item.result c.in_err-map_field.field-0.0
      (omega arith) c.loop-field.invariant.2 (rw (← c.field-item.is) c.in_err-map_field.ensures.ended)));
}

pub map_fields-returns-in_err-add : goal.map_fields-returns-in_err-add
map_fields-returns-in_err-add g t c = record {
  again = c.map_field.ensures.again;
  kept = IfOk-from_err _ _ c.from_residual-in_err-add.ensures.0;
  answered = IfOk-from_err _ _ c.from_residual-in_err-add.ensures.0;
  ended = if_err_has (g.E.From.from_gives record {}) _ _ c.from_residual-in_err-add.ensures.1
      (λ e m. rw (fields_places)
      (loop_wanting (CalledAt g.F.FnMut) (λ d. chosen_in_pattern (field_view (λ t. t) d).pattern) (λ d. chosen_in_pattern (field_view (λ u. u) d).pattern) (g.E.From.from_gives record {})
      c.args.f.now c.loop-field.f c.map_field.new.f c.args.fields.now c.loop-field.mapped.items c.loop-field.field-index c.field-item.result c.in_ok-map_field.field-0 e
      (omega arith) c.loop-field.invariant.2 (rw (← c.field-item.is) c.in_ok-map_field.ensures.answered) m));
}

pub map_fields-loop-field-preserved : goal.map_fields-loop-field-preserved
map_fields-loop-field-preserved g t c =
    rw (c.in_ok-add.ensures) (
      c.map_field.ensures.again,
      shape_more (λ d. field_shape (field_view (λ t. t) d)) (λ d. field_shape (field_view (λ u. u) d))
          c.args.fields.now c.loop-field.mapped.items c.loop-field.field-index c.field-item.result c.in_ok-map_field.field-0
          (omega arith) c.loop-field.invariant.1 (rw (← c.field-item.is) c.in_ok-map_field.ensures.kept),
      loop_answered (CalledAt g.F.FnMut) (λ d. chosen_in_pattern (field_view (λ t. t) d).pattern) (λ d. chosen_in_pattern (field_view (λ u. u) d).pattern)
          c.args.f.now c.loop-field.f c.map_field.new.f c.args.fields.now c.loop-field.mapped.items c.loop-field.field-index c.field-item.result c.in_ok-map_field.field-0
          (omega arith) c.loop-field.invariant.2 (rw (← c.field-item.is) c.in_ok-map_field.ensures.answered),
    )

pub map_fields-returns : goal.map_fields-returns
map_fields-returns g t c = record {
  again = c.loop-field.invariant.0;
  kept = fields_kept c.loop-field.mapped.items c.args.fields.now c.loop-field.field-index c.loop-field-test.false c.loop-field.invariant.1;
  answered = fields_answered (CalledAt g.F.FnMut) c.args.f.now c.loop-field.f
      c.loop-field.mapped.items c.args.fields.now c.loop-field.field-index c.loop-field-test.false c.loop-field.invariant.2;
  ended = tt;
}

pub map_pattern-map_kind-requires : goal.map_pattern-map_kind-requires
map_pattern-map_kind-requires g t c = λ κs out. (to_kind t c.args.pattern.now c.decreases, (out.0, (out.1.0, (out.1.1.0, (out.1.1.1, c.requires)))))

pub map_field-map_pattern-requires : goal.map_field-map_pattern-requires
map_field-map_pattern-requires g t c = λ κs out. (to_pattern t c.args.field.now c.decreases, (out.0, (out.1.0, (out.1.1.0, (out.1.1.1, c.requires)))))

pub map_kind-map_patterns-requires : goal.map_kind-map_patterns-requires
map_kind-map_patterns-requires g t c = λ κs out. (to_enum t _ _ _ _ c.in-Enum.is c.deref.ensures.value c.decreases, (out.0, (out.1.0, (out.1.1.0, (out.1.1.1, c.requires)))))

pub map_kind-map_fields-requires : goal.map_kind-map_fields-requires
map_kind-map_fields-requires g t c = λ κs out. (to_struct t _ _ _ _ _ c.in-Struct.is c.deref-in-Struct.ensures.value c.decreases, (out.0, (out.1.0, (out.1.1.0, (out.1.1.1, c.requires)))))

pub map_kind-map_patterns-requires-in-Tuple : goal.map_kind-map_patterns-requires-in-Tuple
map_kind-map_patterns-requires-in-Tuple g t c = λ κs out. (to_tuple t _ _ _ c.in-Tuple.is c.deref-in-Tuple.ensures.value c.decreases, (out.0, (out.1.0, (out.1.1.0, (out.1.1.1, c.requires)))))

pub map_kind-map_patterns-requires-in-TupleStruct : goal.map_kind-map_patterns-requires-in-TupleStruct
map_kind-map_patterns-requires-in-TupleStruct g t c = λ κs out. (to_tuple_struct t _ _ _ _ c.in-TupleStruct.is c.deref-in-TupleStruct.ensures.value c.decreases, (out.0, (out.1.0, (out.1.1.0, (out.1.1.1, c.requires)))))

pub map_kind-map_one-requires : goal.map_kind-map_one-requires
map_kind-map_one-requires g t c = c.requires

pub map_patterns-map_pattern-requires : goal.map_patterns-map_pattern-requires
map_patterns-map_pattern-requires g t c = λ κs out. (to_one t _ _ _ c.loop-pattern-test.true c.pattern-item.is c.decreases, (out.0, (out.1.0, (out.1.1.0, (out.1.1.1, c.loop-pattern.invariant.0)))))

pub map_fields-map_field-requires : goal.map_fields-map_field-requires
map_fields-map_field-requires g t c = λ κs out. (to_one_field t _ _ _ c.loop-field-test.true c.field-item.is c.decreases, (out.0, (out.1.0, (out.1.1.0, (out.1.1.1, c.loop-field.invariant.0)))))

pub map_patterns-loop-pattern-init : goal.map_patterns-loop-pattern-init
map_patterns-loop-pattern-init g t c = rw (c.new-mapped.ensures.items) (c.requires, refl, refl)

pub map_fields-loop-field-init : goal.map_fields-loop-field-init
map_fields-loop-field-init g t c = rw (c.new-mapped.ensures.items) (c.requires, refl, refl)

pub map_patterns-loop-pattern-smaller : goal.map_patterns-loop-pattern-smaller
map_patterns-loop-pattern-smaller g t c = falls _ _ c.loop-pattern-test.true

pub map_fields-loop-field-smaller : goal.map_fields-loop-field-smaller
map_fields-loop-field-smaller g t c = falls _ _ c.loop-field-test.true
