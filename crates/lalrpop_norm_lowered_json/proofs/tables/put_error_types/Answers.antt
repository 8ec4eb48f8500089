use Rattle.std.proofs.Common.{ap, ◌∙◌}
use Rattle.std.proofs.lemmas.Result.{on_ok_weaker}
use Rattle.lalrpop_norm_json.specs.Json.{maybe_form}
use Rattle.lalrpop_norm_lowered_json_tables.specs.Written.{data_tokens}
use Rattle.lalrpop_norm_lowered_json.specs.LoweredForms.{repr_form}
use Rattle.lalrpop_norm_lowered_json_tables.proofs.Fields.{field}
use Rattle.lalrpop_norm_lowered_json.proofs.tables.put_error_types.Goals as goal

pub returns : goal.returns
returns c =
    let t0 = c.args.out.now.tokens in
    let t1 = c.put_field.new.out.tokens in
    let t2 = c.put_maybe_type.new.out.tokens in
    record {
      ok = on_ok_weaker c.put_maybe_type.result (λ e rest. field t1 t2 _ _ _ _ e (ap (λ t. data_tokens (maybe_form repr_form t)) c.opt_error_type.ensures)
          ∙ field t0 t1 _ _ _ _ c.in_ok-put_field.ensures.ok (ap (λ t. data_tokens (repr_form t)) c.error_recovery_type.ensures)) c.put_maybe_type.ensures.ok;
      before = c.put_maybe_type.ensures.before ∙ c.put_field.ensures.before;
    }
