use Rattle.std.proofs.Common.{sym, ◌∙◌}
use Rattle.std.proofs.lemmas.Result.{on_ok_weaker}
use Rattle.lalrpop_norm_lowered_json_tables.proofs.Steps.{back}
use Rattle.lalrpop_norm_lowered_json.proofs.SharedLevels.{at_nominal, at_associated, at_reference, at_object, at_function}
use Rattle.lalrpop_norm_lowered_json.proofs.ThreeFirst.{three_back}
use Rattle.lalrpop_norm_lowered_json.proofs.shared_types.+shared.Goals as goal

pub put_shared-returns-in-Nominal : goal.put_shared-returns-in-Nominal
put_shared-returns-in-Nominal t c =
    rw (at_nominal c.args.ty.now c.in-Nominal.nominal (sym c.deref.ensures ∙ c.in-Nominal.is))
    record { ok = c.put_applied.ensures.ok; before = c.put_applied.ensures.before }

pub put_shared-returns-in-Associated : goal.put_shared-returns-in-Associated
put_shared-returns-in-Associated t c =
    rw (at_associated c.args.ty.now c.in-Associated.type_parameter c.in-Associated.id (sym c.deref.ensures ∙ c.in-Associated.is))
    record { ok = c.put_associated.ensures.ok; before = c.put_associated.ensures.before }

pub put_shared-returns-in-Ref : goal.put_shared-returns-in-Ref
put_shared-returns-in-Ref t c =
    rw (at_reference c.args.ty.now c.in-Ref.lifetime c.in-Ref.mutable c.in-Ref.referent (sym c.deref.ensures ∙ c.in-Ref.is))
    record { ok = c.put_reference.ensures.ok; before = c.put_reference.ensures.before }

pub put_shared-returns-in-TraitObject : goal.put_shared-returns-in-TraitObject
put_shared-returns-in-TraitObject t c =
    rw (at_object c.args.ty.now c.in-TraitObject.nominal (sym c.deref.ensures ∙ c.in-TraitObject.is))
    record { ok = c.put_applied-in-TraitObject.ensures.ok; before = c.put_applied-in-TraitObject.ensures.before }

pub put_reference-returns : goal.put_reference-returns
put_reference-returns t c =
    let t0 = c.args.out.now.tokens in
    let t1 = c.begin_variant.new.out.tokens in
    let t2 = c.begin_object.new.self.tokens in
    let t3 = c.key.new.self.tokens in
    let t4 = c.put_maybe.new.out.tokens in
    let t5 = c.key-2.new.self.tokens in
    let t6 = c.boolean.new.self.tokens in
    let t7 = c.key-3.new.self.tokens in
    let t8 = c.put_shared.new.out.tokens in
    let t9 = c.end_object.new.self.tokens in
    record {
      ok = on_ok_weaker c.end_object-2.result (λ e. back t0 t1 _ _ _ c.in_ok-begin_variant.ensures.ok (back t1 t9 _ _ _
          (back t1 t2 _ _ _ c.in_ok-begin_object.ensures.ok (back t2 t3 _ _ _ c.in_ok-key.ensures.ok
          (back t3 t4 _ _ _ c.in_ok-put_maybe.ensures.ok (back t4 t5 _ _ _ c.in_ok-key-2.ensures.ok (back t5 t6 _ _ _ c.in_ok-boolean.ensures.ok
          (back t6 t7 _ _ _ c.in_ok-key-3.ensures.ok (back t7 t8 _ _ _ c.in_ok-put_shared.ensures.ok c.in_ok-end_object.ensures.ok))))))) e))
          c.end_object-2.ensures.ok;
      before = c.end_object-2.ensures.room.0 ∙ c.end_object.ensures.room.0 ∙ c.put_shared.ensures.before ∙ c.key-3.ensures.room.0
          ∙ c.boolean.ensures.room.0 ∙ c.key-2.ensures.room.0 ∙ c.put_maybe.ensures.before ∙ c.key.ensures.room.0
          ∙ c.begin_object.ensures.room.0 ∙ c.begin_variant.ensures.before;
    }

pub put_shared-returns-in_ok-end_object-in-Fn : goal.put_shared-returns-in_ok-end_object-in-Fn
put_shared-returns-in_ok-end_object-in-Fn t c =
    let t0 = c.args.out.now.tokens in
    let t1 = c.begin_variant-in-Fn.new.out.tokens in
    let t2 = c.begin_function.new.out.tokens in
    let t3 = c.key.new.self.tokens in
    let t4 = c.put_return.new.out.tokens in
    let t5 = c.end_object-in-Fn.new.self.tokens in
    rw (at_function c.args.ty.now c.in-Fn.forall c.in-Fn.path c.in-Fn.parameters c.in-Fn.ret (sym c.deref.ensures ∙ c.in-Fn.is))
    record {
      ok = on_ok_weaker c.end_object-in-Fn-2.result (λ e. back t0 t1 _ _ _ c.in_ok-begin_variant-in-Fn.ensures.ok (back t1 t5 _ _ _
          (three_back t1 t2 t5 _ _ _ _ c.in_ok-begin_function-in-Fn.ensures.ok (back t2 t3 _ _ _ c.in_ok-key-in-Fn.ensures.ok
          (back t3 t4 _ _ _ c.in_ok-put_return-in-Fn.ensures.ok c.in_ok-end_object-in-Fn.ensures.ok))) e)) c.end_object-in-Fn-2.ensures.ok;
      before = c.end_object-in-Fn-2.ensures.room.0 ∙ c.end_object-in-Fn.ensures.room.0 ∙ c.put_return.ensures.before ∙ c.key.ensures.room.0
          ∙ c.begin_function.ensures.before ∙ c.begin_variant-in-Fn.ensures.before;
    }
