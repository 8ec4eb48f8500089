use Rattle.std.proofs.Common.{refl, ◌∙◌, string_bytes}
use Rattle.std.proofs.lemmas.Result.{on_ok_weaker}
use Rattle.serde_json.specs.Data.{string}
use Rattle.lalrpop_norm_lowered_json_tables.proofs.Fields.{field, list_seen}
use Rattle.lalrpop_norm_lowered_json_tables.proofs.grammar.put_uses.Goals as goal

pub returns : goal.returns
returns c =
    let t0 = c.args.out.now.tokens in
    let t1 = c.put_list_field.new.out.tokens in
    let t2 = c.put_field.new.out.tokens in
    record {
      ok = on_ok_weaker c.put_field.result (λ e rest. field t1 t2 _ _ _ _ e refl
          ∙ field t0 t1 _ _ _ _ c.in_ok-put_list_field.ensures.ok (list_seen string string_bytes c.args.grammar.now.uses.items)) c.put_field.ensures.ok;
      before = c.put_field.ensures.before ∙ c.put_list_field.ensures.before;
    }
