use Rattle.std.proofs.Common.{arith, refl}
use Rattle.std.proofs.lemmas.List.{take_more, take_all}
use Rattle.std.proofs.lemmas.Result.{IfOk-from_err}
use borrow.Author.Count.{falls}
use Rattle.lalrpop_norm_tree_patterns.proofs.PatternLemmas.{same_more, same_more_fields, enumerated_copied, structured_copied, tuple_struct_copied, path_copied, tuple_copied, number_copied, underscore_copied, dot_dot_copied, chosen_copied, character_copied, text_copied, pattern_copied, field_copied}
use Rattle.lalrpop_norm_tree_patterns.proofs.PatternSizes.{to_kind, to_pattern, to_one, to_one_field, to_enum, to_struct, to_tuple, to_tuple_struct}
use Rattle.lalrpop_norm_tree_patterns.proofs.pattern.copy.+copy.Goals as goal

pub copy-returns : goal.copy-returns
copy-returns g t c = pattern_copied g.T.Clone.is_clone c.args.pattern.now _ refl c.in_ok-kind.ensures

pub copy_field-returns : goal.copy_field-returns
copy_field-returns g t c = field_copied g.T.Clone.is_clone c.args.field.now c.named.result c.in_ok-copy.field-0 c.named.ensures c.in_ok-copy.ensures

pub copy_patterns-loop-pattern-preserved : goal.copy_patterns-loop-pattern-preserved
copy_patterns-loop-pattern-preserved g t c =
    let i = c.loop-pattern.pattern-index in
    let more = take_more c.args.patterns.now i c.pattern-item.result (omega arith) in
    rw (c.in_ok-push.ensures.items, more) (same_more _ _ _ _ _ c.loop-pattern.invariant (rw (← c.pattern-item.is) c.in_ok-copy.ensures))

pub copy_patterns-returns : goal.copy_patterns-returns
copy_patterns-returns g t c = rw (← take_all c.loop-pattern.pattern-index c.args.patterns.now (omega arith)) c.loop-pattern.invariant

pub copy_fields-loop-field-preserved : goal.copy_fields-loop-field-preserved
copy_fields-loop-field-preserved g t c =
    let i = c.loop-field.field-index in
    let more = take_more c.args.fields.now i c.field-item.result (omega arith) in
    rw (c.in_ok-push.ensures.items, more) (same_more_fields _ _ _ _ _ c.loop-field.invariant (rw (← c.field-item.is) c.in_ok-copy_field.ensures))

pub copy_fields-returns : goal.copy_fields-returns
copy_fields-returns g t c = rw (← take_all c.loop-field.field-index c.args.fields.now (omega arith)) c.loop-field.invariant

pub copy_kind-returns-in_ok-copy_patterns-in-Enum : goal.copy_kind-returns-in_ok-copy_patterns-in-Enum
copy_kind-returns-in_ok-copy_patterns-in-Enum g t c =
    enumerated_copied _ c.enumerated.result _ _ _ _ c.in-Enum.is (rw (← c.deref.ensures.value) c.in_ok-copy_patterns-in-Enum.ensures) c.enumerated.ensures

pub copy_kind-returns-in_ok-copy_fields-in-Struct : goal.copy_kind-returns-in_ok-copy_fields-in-Struct
copy_kind-returns-in_ok-copy_fields-in-Struct g t c =
    structured_copied _ c.structured.result _ _ _ _ _ c.in-Struct.is (rw (← c.deref-in-Struct.ensures.value) c.in_ok-copy_fields-in-Struct.ensures) c.structured.ensures

pub copy_kind-returns-in_ok-clone-in-Path : goal.copy_kind-returns-in_ok-clone-in-Path
copy_kind-returns-in_ok-clone-in-Path g t c = path_copied g.T.Clone.is_clone _ _ _ c.in-Path.is c.in_ok-clone-in-Path.ensures.cases

pub copy_kind-returns-in_ok-copy_patterns-in-Tuple : goal.copy_kind-returns-in_ok-copy_patterns-in-Tuple
copy_kind-returns-in_ok-copy_patterns-in-Tuple g t c =
    tuple_copied g.T.Clone.is_clone _ _ _ c.in-Tuple.is (rw (← c.deref-in-Tuple.ensures.value) c.in_ok-copy_patterns-in-Tuple.ensures)

pub copy_kind-returns-in_ok-copy_patterns-in-TupleStruct : goal.copy_kind-returns-in_ok-copy_patterns-in-TupleStruct
copy_kind-returns-in_ok-copy_patterns-in-TupleStruct g t c =
    tuple_struct_copied _ c.tuple_struct.result _ _ _ _ c.in-TupleStruct.is (rw (← c.deref-in-TupleStruct.ensures.value) c.in_ok-copy_patterns-in-TupleStruct.ensures) c.tuple_struct.ensures

pub copy_kind-returns-in-Usize : goal.copy_kind-returns-in-Usize
copy_kind-returns-in-Usize g t c = number_copied g.T.Clone.is_clone _ _ c.in-Usize.is

pub copy_kind-returns-in-Underscore : goal.copy_kind-returns-in-Underscore
copy_kind-returns-in-Underscore g t c = underscore_copied g.T.Clone.is_clone _ c.in-Underscore.is

pub copy_kind-returns-in-DotDot : goal.copy_kind-returns-in-DotDot
copy_kind-returns-in-DotDot g t c = dot_dot_copied g.T.Clone.is_clone _ c.in-DotDot.is

pub copy_kind-returns-in_ok-clone-in-Choose : goal.copy_kind-returns-in_ok-clone-in-Choose
copy_kind-returns-in_ok-clone-in-Choose g t c = chosen_copied g.T.Clone.is_clone _ _ _ c.in-Choose.is c.in_ok-clone-in-Choose.ensures.cases

pub copy_kind-returns-in_ok-clone-in-CharLiteral : goal.copy_kind-returns-in_ok-clone-in-CharLiteral
copy_kind-returns-in_ok-clone-in-CharLiteral g t c = character_copied g.T.Clone.is_clone _ _ _ c.in-CharLiteral.is c.in_ok-clone-in-CharLiteral.ensures.cases

pub copy_kind-returns-in_ok-clone-in-String : goal.copy_kind-returns-in_ok-clone-in-String
copy_kind-returns-in_ok-clone-in-String g t c = text_copied g.T.Clone.is_clone _ _ _ c.in-String.is c.in_ok-clone-in-String.ensures.cases

pub copy-returns-in_err-kind : goal.copy-returns-in_err-kind
copy-returns-in_err-kind g t c = IfOk-from_err _ _ c.from_residual.ensures.0

pub copy_field-returns-in_err-copy : goal.copy_field-returns-in_err-copy
copy_field-returns-in_err-copy g t c = IfOk-from_err _ _ c.from_residual.ensures.0

pub copy_patterns-returns-in_err-copy : goal.copy_patterns-returns-in_err-copy
copy_patterns-returns-in_err-copy g t c = IfOk-from_err _ _ c.from_residual.ensures.0

pub copy_patterns-returns-in_err-push : goal.copy_patterns-returns-in_err-push
copy_patterns-returns-in_err-push g t c = IfOk-from_err _ _ c.from_residual-in_err-push.ensures.0

pub copy_fields-returns-in_err-copy_field : goal.copy_fields-returns-in_err-copy_field
copy_fields-returns-in_err-copy_field g t c = IfOk-from_err _ _ c.from_residual.ensures.0

pub copy_fields-returns-in_err-push : goal.copy_fields-returns-in_err-push
copy_fields-returns-in_err-push g t c = IfOk-from_err _ _ c.from_residual-in_err-push.ensures.0

pub copy_kind-returns-in_err-copy_patterns-in-Enum : goal.copy_kind-returns-in_err-copy_patterns-in-Enum
copy_kind-returns-in_err-copy_patterns-in-Enum g t c = IfOk-from_err _ _ c.from_residual.ensures.0

pub copy_kind-returns-in_err-copy_fields-in-Struct : goal.copy_kind-returns-in_err-copy_fields-in-Struct
copy_kind-returns-in_err-copy_fields-in-Struct g t c = IfOk-from_err _ _ c.from_residual-in_err-copy_fields-in-Struct.ensures.0

pub copy_kind-returns-in_err-clone-in-Path : goal.copy_kind-returns-in_err-clone-in-Path
copy_kind-returns-in_err-clone-in-Path g t c = IfOk-from_err _ _ c.from_residual-in_err-clone-in-Path.ensures.0

pub copy_kind-returns-in_err-copy_patterns-in-Tuple : goal.copy_kind-returns-in_err-copy_patterns-in-Tuple
copy_kind-returns-in_err-copy_patterns-in-Tuple g t c = IfOk-from_err _ _ c.from_residual-in_err-copy_patterns-in-Tuple.ensures.0

pub copy_kind-returns-in_err-copy_patterns-in-TupleStruct : goal.copy_kind-returns-in_err-copy_patterns-in-TupleStruct
copy_kind-returns-in_err-copy_patterns-in-TupleStruct g t c = IfOk-from_err _ _ c.from_residual-in_err-copy_patterns-in-TupleStruct.ensures.0

pub copy_kind-returns-in_err-clone-in-Choose : goal.copy_kind-returns-in_err-clone-in-Choose
copy_kind-returns-in_err-clone-in-Choose g t c = IfOk-from_err _ _ c.from_residual-in_err-clone-in-Choose.ensures.0

pub copy_kind-returns-in_err-clone-in-CharLiteral : goal.copy_kind-returns-in_err-clone-in-CharLiteral
copy_kind-returns-in_err-clone-in-CharLiteral g t c = IfOk-from_err _ _ c.from_residual-in_err-clone-in-CharLiteral.ensures.0

pub copy_kind-returns-in_err-clone-in-String : goal.copy_kind-returns-in_err-clone-in-String
copy_kind-returns-in_err-clone-in-String g t c = IfOk-from_err _ _ c.from_residual-in_err-clone-in-String.ensures.0

pub copy-copy_kind-requires : goal.copy-copy_kind-requires
copy-copy_kind-requires g t c = λ κs out. (to_kind t c.args.pattern.now c.decreases, out)

pub copy_field-copy-requires : goal.copy_field-copy-requires
copy_field-copy-requires g t c = λ κs out. (to_pattern t c.args.field.now c.decreases, out)

pub copy_kind-copy_patterns-requires : goal.copy_kind-copy_patterns-requires
copy_kind-copy_patterns-requires g t c = λ κs out. (to_enum t _ _ _ _ c.in-Enum.is c.deref.ensures.value c.decreases, out)

pub copy_kind-copy_fields-requires : goal.copy_kind-copy_fields-requires
copy_kind-copy_fields-requires g t c = λ κs out. (to_struct t _ _ _ _ _ c.in-Struct.is c.deref-in-Struct.ensures.value c.decreases, out)

pub copy_kind-copy_patterns-requires-in-Tuple : goal.copy_kind-copy_patterns-requires-in-Tuple
copy_kind-copy_patterns-requires-in-Tuple g t c = λ κs out. (to_tuple t _ _ _ c.in-Tuple.is c.deref-in-Tuple.ensures.value c.decreases, out)

pub copy_kind-copy_patterns-requires-in-TupleStruct : goal.copy_kind-copy_patterns-requires-in-TupleStruct
copy_kind-copy_patterns-requires-in-TupleStruct g t c = λ κs out. (to_tuple_struct t _ _ _ _ c.in-TupleStruct.is c.deref-in-TupleStruct.ensures.value c.decreases, out)

pub copy_patterns-copy-requires : goal.copy_patterns-copy-requires
copy_patterns-copy-requires g t c = λ κs out. (to_one t _ _ _ c.loop-pattern-test.true c.pattern-item.is c.decreases, out)

pub copy_fields-copy_field-requires : goal.copy_fields-copy_field-requires
copy_fields-copy_field-requires g t c = λ κs out. (to_one_field t _ _ _ c.loop-field-test.true c.field-item.is c.decreases, out)

pub copy_patterns-loop-pattern-init : goal.copy_patterns-loop-pattern-init
copy_patterns-loop-pattern-init g t c = rw (c.new-copies.ensures.items) tt

pub copy_fields-loop-field-init : goal.copy_fields-loop-field-init
copy_fields-loop-field-init g t c = rw (c.new-copies.ensures.items) tt

pub copy_patterns-loop-pattern-smaller : goal.copy_patterns-loop-pattern-smaller
copy_patterns-loop-pattern-smaller g t c = falls _ _ c.loop-pattern-test.true

pub copy_fields-loop-field-smaller : goal.copy_fields-loop-field-smaller
copy_fields-loop-field-smaller g t c = falls _ _ c.loop-field-test.true
