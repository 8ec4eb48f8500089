use Rattle.std.proofs.Common.{◌∙◌}
use Rattle.std.proofs.lemmas.Result.{on_ok_weaker}
use Rattle.lalrpop_norm_lowered_json_tables.proofs.Steps.{back}
use Rattle.lalrpop_norm_lowered_json.proofs.shared_actions.FormPutsSharedActionFnDefn.put.Goals as goal

pub returns : goal.returns
returns c =
    let t0 = c.args.out.now.tokens in
    let t1 = c.begin_object.new.self.tokens in
    let t2 = c.put_field.new.out.tokens in
    let t3 = c.put_field-2.new.out.tokens in
    let t4 = c.put_field-3.new.out.tokens in
    record {
      ok = on_ok_weaker c.end_object.result (λ e. back t0 t1 _ _ _ c.in_ok-begin_object.ensures.ok (back t1 t2 _ _ _ c.in_ok-put_field.ensures.ok
          (back t2 t3 _ _ _ c.in_ok-put_field-2.ensures.ok (back t3 t4 _ _ _ c.in_ok-put_field-3.ensures.ok e)))) c.end_object.ensures.ok;
      before = c.end_object.ensures.room.0 ∙ c.put_field-3.ensures.before ∙ c.put_field-2.ensures.before ∙ c.put_field.ensures.before
          ∙ c.begin_object.ensures.room.0;
    }
