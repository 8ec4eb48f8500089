use Rattle.std.proofs.Common.{ap, ◌∙◌, ◌∷◌, []}
use Rattle.std.proofs.lemmas.Result.{on_ok_weaker}
use Rattle.json.specs.Token.{end_object}
use Rattle.lalrpop_norm_tree_parts.specs.Reprs.{repr_view}
use Rattle.lalrpop_norm_json.specs.Forms.{nonterminal_form}
use Rattle.lalrpop_norm_lowered_json_tables.specs.Written.{data_tokens}
use Rattle.lalrpop_norm_lowered_json_tables.proofs.Fields.{field, rows_seen}
use Rattle.lalrpop_norm_lowered_json_tables.proofs.Steps.{back}
use Rattle.lalrpop_norm_lowered_json.specs.LoweredForms.{repr_form}
use Rattle.lalrpop_norm_lowered_json.specs.WholeForms.{rows_form}
use Rattle.lalrpop_norm_lowered_json.proofs.tables.FormPutsTypes.put.Goals as goal

pub returns : goal.returns
returns c =
    let t0 = c.args.out.now.tokens in
    let t1 = c.begin_object.new.self.tokens in
    let t2 = c.put_error_types.new.out.tokens in
    let t3 = c.put_rows_field.new.out.tokens in
    record {
      ok = on_ok_weaker c.end_object.result (λ e. back t0 t1 _ _ _ c.in_ok-begin_object.ensures.ok (e ∙ c.in_ok-put_types_from_parse_error.ensures.ok (end_object ∷ [])
          ∙ field t2 t3 _ _ _ _ c.in_ok-put_rows_field.ensures.ok (rows_seen nonterminal_form repr_form repr_view c.nonterminals.result.now
          ∙ ap (λ r. data_tokens (rows_form nonterminal_form repr_form r)) c.nonterminals.ensures)
          ∙ c.in_ok-put_error_types.ensures.ok _)) c.end_object.ensures.ok;
      before = c.end_object.ensures.room.0 ∙ c.put_types_from_parse_error.ensures.before ∙ c.put_rows_field.ensures.before
          ∙ c.put_error_types.ensures.before ∙ c.begin_object.ensures.room.0;
    }
