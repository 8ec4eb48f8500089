use Rattle.std.proofs.Common.{◌∙◌, ◌∷◌, []}
use Rattle.std.proofs.lemmas.Result.{on_ok_weaker}
use Rattle.json.specs.Token.{end_object}
use Rattle.lalrpop_norm_json.specs.Forms.{nonterminal_form}
use Rattle.lalrpop_norm_lowered_json_tables.proofs.Fields.{field, rows_seen}
use Rattle.lalrpop_norm_lowered_json_tables.proofs.Steps.{back}
use Rattle.lalrpop_norm_shared_types.specs.Shared.{shared_view}
use Rattle.lalrpop_norm_lowered_json.specs.LoweredForms.{repr_form}
use Rattle.lalrpop_norm_lowered_json.proofs.tables.put_shared_table.Goals as goal

pub returns : goal.returns
returns c =
    let t0 = c.args.out.now.tokens in
    let t1 = c.key.new.self.tokens in
    let t2 = c.begin_object.new.self.tokens in
    let t3 = c.put_error_types.new.out.tokens in
    let t4 = c.put_rows_field.new.out.tokens in
    record {
      ok = on_ok_weaker c.end_object.result (λ e. back t0 t1 _ _ _ c.in_ok-key.ensures.ok (back t1 t2 _ _ _ c.in_ok-begin_object.ensures.ok (e
          ∙ c.in_ok-put_types_from_parse_error.ensures.ok (end_object ∷ [])
          ∙ field t3 t4 _ _ _ _ c.in_ok-put_rows_field.ensures.ok (rows_seen nonterminal_form repr_form shared_view c.args.nonterminals.now)
          ∙ c.in_ok-put_error_types.ensures.ok _))) c.end_object.ensures.ok;
      before = c.end_object.ensures.room.0 ∙ c.put_types_from_parse_error.ensures.before ∙ c.put_rows_field.ensures.before
          ∙ c.put_error_types.ensures.before ∙ c.begin_object.ensures.room.0 ∙ c.key.ensures.room.0;
    }
