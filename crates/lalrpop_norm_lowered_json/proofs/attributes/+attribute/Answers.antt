use Rattle.std.proofs.Common.{◌++◌, ap, sym, ◌∙◌}
use Rattle.std.proofs.lemmas.Result.{on_ok_weaker}
use Rattle.lalrpop_norm_json.specs.Forms.{attribute_form}
use Rattle.lalrpop_norm_lowered_json_tables.specs.Written.{data_tokens}
use Rattle.lalrpop_norm_lowered_json_tables.proofs.Steps.{back}
use Rattle.lalrpop_norm_lowered_json.proofs.Views.{attribute_is}
use Rattle.lalrpop_norm_lowered_json.proofs.attributes.+attribute.Goals as goal

pub put_attribute-returns : goal.put_attribute-returns
put_attribute-returns t c =
    let t0 = c.args.out.now.tokens in
    let t1 = c.begin_object.new.self.tokens in
    let t2 = c.key.new.self.tokens in
    let t3 = c.put_argument.new.out.tokens in
    let t4 = c.put_field.new.out.tokens in
    let t5 = c.put_field-2.new.out.tokens in
    record {
      ok = on_ok_weaker c.end_object.result (λ e. back t0 t1 _ _ _ c.in_ok-begin_object.ensures.ok (back t1 t2 _ _ _ c.in_ok-key.ensures.ok (
          back t2 t3 _ _ _ c.in_ok-put_argument.ensures.ok (back t3 t4 _ _ _ c.in_ok-put_field.ensures.ok (back t4 t5 _ _ _ c.in_ok-put_field-2.ensures.ok e))))
          ∙ ap (λ v. t0 ++ data_tokens (attribute_form v)) (sym (attribute_is c.args.attribute.now))) c.end_object.ensures.ok;
      before = c.end_object.ensures.room.0 ∙ c.put_field-2.ensures.before ∙ c.put_field.ensures.before
          ∙ c.put_argument.ensures.before ∙ c.key.ensures.room.0 ∙ c.begin_object.ensures.room.0;
    }
