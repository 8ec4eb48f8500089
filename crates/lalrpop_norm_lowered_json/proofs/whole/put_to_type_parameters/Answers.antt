use Rattle.std.proofs.Common.{refl, ◌∙◌}
use Rattle.std.proofs.lemmas.Result.{on_ok_weaker}
use Rattle.lalrpop_norm_lowered_json_tables.proofs.Fields.{field}
use Rattle.lalrpop_norm_lowered_json.proofs.whole.put_to_type_parameters.Goals as goal

pub returns : goal.returns
returns c =
    let t0 = c.args.out.now.tokens in
    let t1 = c.put_rows_field.new.out.tokens in
    let t2 = c.put_field.new.out.tokens in
    let t3 = c.put_list_field.new.out.tokens in
    record {
      ok = on_ok_weaker c.put_list_field.result (λ e rest. field t2 t3 _ _ _ _ e refl ∙ field t1 t2 _ _ _ _ c.in_ok-put_field.ensures.ok refl
          ∙ field t0 t1 _ _ _ _ c.in_ok-put_rows_field.ensures.ok refl) c.put_list_field.ensures.ok;
      before = c.put_list_field.ensures.before ∙ c.put_field.ensures.before ∙ c.put_rows_field.ensures.before;
    }
