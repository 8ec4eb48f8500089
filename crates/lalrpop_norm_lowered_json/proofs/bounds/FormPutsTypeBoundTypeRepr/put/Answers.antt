use Rattle.std.proofs.Common.{◌∙◌}
use Rattle.std.proofs.lemmas.Result.{on_ok_weaker}
use Rattle.lalrpop_norm_lowered_json_tables.proofs.Steps.{back}
use Rattle.lalrpop_norm_lowered_json.proofs.BoundForms.{function_bound_form, trait_bound_form}
use Rattle.lalrpop_norm_lowered_json.proofs.bounds.FormPutsTypeBoundTypeRepr.put.Goals as goal

pub returns-in_ok-put_function_bound-in-Fn : goal.returns-in_ok-put_function_bound-in-Fn
returns-in_ok-put_function_bound-in-Fn c =
    rw (c.in-Fn.is, function_bound_form c.in-Fn.forall c.in-Fn.path c.in-Fn.parameters c.in-Fn.ret)
    record {
      ok = on_ok_weaker c.end_object.result (λ e. back c.args.out.now.tokens c.begin_variant.new.out.tokens _ _ _
          c.in_ok-begin_variant-in-Fn.ensures.ok (back c.begin_variant.new.out.tokens c.put_function_bound.new.out.tokens _ _ _
          c.in_ok-put_function_bound-in-Fn.ensures.ok e)) c.end_object.ensures.ok;
      before = c.end_object.ensures.room.0 ∙ c.put_function_bound.ensures.before ∙ c.begin_variant.ensures.before;
    }

pub returns-in_ok-put_trait_bound-in-Trait : goal.returns-in_ok-put_trait_bound-in-Trait
returns-in_ok-put_trait_bound-in-Trait c =
    rw (c.in-Trait.is, trait_bound_form c.in-Trait.forall c.in-Trait.path c.in-Trait.parameters)
    record {
      ok = on_ok_weaker c.end_object-in-Trait.result (λ e. back c.args.out.now.tokens c.begin_variant-in-Trait.new.out.tokens _ _ _
          c.in_ok-begin_variant-in-Trait.ensures.ok (back c.begin_variant-in-Trait.new.out.tokens c.put_trait_bound.new.out.tokens _ _ _
          c.in_ok-put_trait_bound-in-Trait.ensures.ok e)) c.end_object-in-Trait.ensures.ok;
      before = c.end_object-in-Trait.ensures.room.0 ∙ c.put_trait_bound.ensures.before ∙ c.begin_variant-in-Trait.ensures.before;
    }
