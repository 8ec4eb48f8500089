use Rattle.std.proofs.Common.{ap, ◌∙◌}
use Rattle.std.proofs.lemmas.Result.{on_ok_weaker}
use Rattle.lalrpop_norm_tree_parts.specs.Reprs.{repr_view}
use Rattle.lalrpop_norm_json.specs.Json.{maybe_form}
use Rattle.lalrpop_norm_json.specs.Forms.{terminal_form}
use Rattle.lalrpop_norm_lowered_json_tables.specs.Written.{data_tokens}
use Rattle.lalrpop_norm_lowered_json.specs.LoweredForms.{repr_form}
use Rattle.lalrpop_norm_lowered_json.specs.WholeForms.{rows_form}
use Rattle.lalrpop_norm_lowered_json_tables.proofs.Fields.{field, rows_seen}
use Rattle.lalrpop_norm_lowered_json.proofs.tables.put_types_from_parse_error.Goals as goal

pub returns : goal.returns
returns c =
    let t0 = c.args.out.now.tokens in
    let t1 = c.put_field.new.out.tokens in
    let t2 = c.put_maybe_type.new.out.tokens in
    let t3 = c.put_field-2.new.out.tokens in
    let t4 = c.put_rows_field.new.out.tokens in
    record {
      ok = on_ok_weaker c.put_rows_field.result (λ e rest. field t3 t4 _ _ _ _ e (rows_seen terminal_form repr_form repr_view c.terminals.result.now
          ∙ ap (λ r. data_tokens (rows_form terminal_form repr_form r)) c.terminals.ensures)
          ∙ field t2 t3 _ _ _ _ c.in_ok-put_field-2.ensures.ok (ap (λ t. data_tokens (repr_form t)) c.terminal_token_type.ensures)
          ∙ field t1 t2 _ _ _ _ c.in_ok-put_maybe_type.ensures.ok (ap (λ t. data_tokens (maybe_form repr_form t)) c.opt_terminal_loc_type.ensures)
          ∙ field t0 t1 _ _ _ _ c.in_ok-put_field.ensures.ok (ap (λ t. data_tokens (repr_form t)) c.parse_error_type.ensures)) c.put_rows_field.ensures.ok;
      before = c.put_rows_field.ensures.before ∙ c.put_field-2.ensures.before ∙ c.put_maybe_type.ensures.before ∙ c.put_field.ensures.before;
    }
