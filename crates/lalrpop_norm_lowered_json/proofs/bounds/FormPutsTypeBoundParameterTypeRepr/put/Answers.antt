use Rattle.std.proofs.Common.{◌∙◌}
use Rattle.std.proofs.lemmas.Result.{on_ok_weaker}
use Rattle.lalrpop_norm_lowered_json_tables.proofs.Steps.{back}
use Rattle.lalrpop_norm_lowered_json.proofs.bounds.FormPutsTypeBoundParameterTypeRepr.put.Goals as goal

pub returns-in-TypeParameter : goal.returns-in-TypeParameter
returns-in-TypeParameter c = rw (c.in-TypeParameter.is) record { ok = c.put_variant-in-TypeParameter.ensures.ok; before = c.put_variant-in-TypeParameter.ensures.before }

pub returns-in_ok-put_named_type-in-Associated : goal.returns-in_ok-put_named_type-in-Associated
returns-in_ok-put_named_type-in-Associated c =
    rw (c.in-Associated.is)
    record {
      ok = on_ok_weaker c.end_object.result (λ e. back c.args.out.now.tokens c.begin_variant.new.out.tokens _ _ _
          c.in_ok-begin_variant-in-Associated.ensures.ok (back c.begin_variant.new.out.tokens c.put_named_type.new.out.tokens _ _ _
          c.in_ok-put_named_type-in-Associated.ensures.ok e)) c.end_object.ensures.ok;
      before = c.end_object.ensures.room.0 ∙ c.put_named_type.ensures.before ∙ c.begin_variant.ensures.before;
    }
