use Rattle.std.proofs.Common.{◌∙◌}
use Rattle.std.proofs.lemmas.Result.{on_ok_weaker}
use Rattle.lalrpop_norm_tree_parts.specs.Reprs.{repr_view}
use Rattle.lalrpop_norm_lowered_json.proofs.PatternKinds.{field_is, tuple_struct_seen, number_seen, text_seen}
use Rattle.lalrpop_norm_lowered_json_tables.proofs.Steps.{back}
use Rattle.lalrpop_norm_lowered_json.proofs.patterns.+patterns.Goals as goal

pub put_kind-returns-in-TupleStruct : goal.put_kind-returns-in-TupleStruct
put_kind-returns-in-TupleStruct t c =
    rw (c.in-TupleStruct.is, tuple_struct_seen repr_view c.in-TupleStruct.path c.in-TupleStruct.patterns)
    record { ok = c.put_called-in-TupleStruct.ensures.ok; before = c.put_called-in-TupleStruct.ensures.before }

pub put_kind-returns-in-Usize : goal.put_kind-returns-in-Usize
put_kind-returns-in-Usize t c =
    rw (c.in-Usize.is, number_seen repr_view c.in-Usize.number)
    record { ok = c.put_variant-in-Usize.ensures.ok; before = c.put_variant-in-Usize.ensures.before }

pub put_kind-returns-in-String : goal.put_kind-returns-in-String
put_kind-returns-in-String t c =
    rw (c.in-String.is, text_seen repr_view c.in-String.text)
    record { ok = c.put_variant-in-String.ensures.ok; before = c.put_variant-in-String.ensures.before }

pub put_field_pattern-returns : goal.put_field_pattern-returns
put_field_pattern-returns t c =
    let t0 = c.args.out.now.tokens in
    let t1 = c.begin_object.new.self.tokens in
    let t2 = c.put_field.new.out.tokens in
    let t3 = c.put_field-2.new.out.tokens in
    let t4 = c.key.new.self.tokens in
    let t5 = c.put_pattern.new.out.tokens in
    rw (field_is repr_view c.args.field.now)
    record {
      ok = on_ok_weaker c.end_object.result (λ e. back t0 t1 _ _ _ c.in_ok-begin_object.ensures.ok (back t1 t2 _ _ _ c.in_ok-put_field.ensures.ok
          (back t2 t3 _ _ _ c.in_ok-put_field-2.ensures.ok (back t3 t4 _ _ _ c.in_ok-key.ensures.ok
          (back t4 t5 _ _ _ c.in_ok-put_pattern.ensures.ok e))))) c.end_object.ensures.ok;
      before = c.end_object.ensures.room.0 ∙ c.put_pattern.ensures.before ∙ c.key.ensures.room.0 ∙ c.put_field-2.ensures.before
          ∙ c.put_field.ensures.before ∙ c.begin_object.ensures.room.0;
    }
