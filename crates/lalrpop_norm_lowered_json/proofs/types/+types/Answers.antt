use Rattle.std.proofs.Common.{◌∙◌}
use Rattle.std.proofs.lemmas.Result.{on_ok_weaker}
use Rattle.lalrpop_norm_tree_parts.proofs.ReprSeen.{associated_seen, reference_seen, object_seen, function_seen}
use Rattle.lalrpop_norm_tree_parts.proofs.ReprViews.{view_nominal}
use Rattle.lalrpop_norm_lowered_json_tables.proofs.Steps.{back}
use Rattle.lalrpop_norm_lowered_json.proofs.ThreeFirst.{three_back}
use Rattle.lalrpop_norm_lowered_json.proofs.types.+types.Goals as goal

pub put_type-returns-in-Nominal : goal.put_type-returns-in-Nominal
put_type-returns-in-Nominal t c =
    rw (c.in-Nominal.is, view_nominal c.in-Nominal.nominal)
    record { ok = c.put_applied.ensures.ok; before = c.put_applied.ensures.before }

pub put_type-returns-in-Associated : goal.put_type-returns-in-Associated
put_type-returns-in-Associated t c =
    rw (c.in-Associated.is, associated_seen c.in-Associated.type_parameter c.in-Associated.id)
    record { ok = c.put_associated.ensures.ok; before = c.put_associated.ensures.before }

pub put_type-returns-in-Ref : goal.put_type-returns-in-Ref
put_type-returns-in-Ref t c =
    rw (c.in-Ref.is, reference_seen c.in-Ref.lifetime c.in-Ref.mutable c.in-Ref.referent, ← c.deref-in-Ref.ensures)
    record { ok = c.put_reference.ensures.ok; before = c.put_reference.ensures.before }

pub put_type-returns-in-TraitObject : goal.put_type-returns-in-TraitObject
put_type-returns-in-TraitObject t c =
    rw (c.in-TraitObject.is, object_seen c.in-TraitObject.nominal)
    record { ok = c.put_applied-in-TraitObject.ensures.ok; before = c.put_applied-in-TraitObject.ensures.before }

pub put_reference-returns : goal.put_reference-returns
put_reference-returns t c =
    let t0 = c.args.out.now.tokens in
    let t1 = c.begin_variant.new.out.tokens in
    let t2 = c.begin_object.new.self.tokens in
    let t3 = c.key.new.self.tokens in
    let t4 = c.put_maybe.new.out.tokens in
    let t5 = c.key-2.new.self.tokens in
    let t6 = c.boolean.new.self.tokens in
    let t7 = c.key-3.new.self.tokens in
    let t8 = c.put_type.new.out.tokens in
    let t9 = c.end_object.new.self.tokens in
    record {
      ok = on_ok_weaker c.end_object-2.result (λ e. back t0 t1 _ _ _ c.in_ok-begin_variant.ensures.ok (back t1 t9 _ _ _
          (back t1 t2 _ _ _ c.in_ok-begin_object.ensures.ok (back t2 t3 _ _ _ c.in_ok-key.ensures.ok
          (back t3 t4 _ _ _ c.in_ok-put_maybe.ensures.ok (back t4 t5 _ _ _ c.in_ok-key-2.ensures.ok (back t5 t6 _ _ _ c.in_ok-boolean.ensures.ok
          (back t6 t7 _ _ _ c.in_ok-key-3.ensures.ok (back t7 t8 _ _ _ c.in_ok-put_type.ensures.ok c.in_ok-end_object.ensures.ok))))))) e))
          c.end_object-2.ensures.ok;
      before = c.end_object-2.ensures.room.0 ∙ c.end_object.ensures.room.0 ∙ c.put_type.ensures.before ∙ c.key-3.ensures.room.0
          ∙ c.boolean.ensures.room.0 ∙ c.key-2.ensures.room.0 ∙ c.put_maybe.ensures.before ∙ c.key.ensures.room.0
          ∙ c.begin_object.ensures.room.0 ∙ c.begin_variant.ensures.before;
    }

pub put_type-returns-in_ok-end_object-in-Fn : goal.put_type-returns-in_ok-end_object-in-Fn
put_type-returns-in_ok-end_object-in-Fn t c =
    let t0 = c.args.out.now.tokens in
    let t1 = c.begin_variant-in-Fn.new.out.tokens in
    let t2 = c.begin_function.new.out.tokens in
    let t3 = c.key.new.self.tokens in
    let t4 = c.put_return.new.out.tokens in
    let t5 = c.end_object-in-Fn.new.self.tokens in
    rw (c.in-Fn.is, function_seen c.in-Fn.forall c.in-Fn.path c.in-Fn.parameters c.in-Fn.ret)
    record {
      ok = on_ok_weaker c.end_object-in-Fn-2.result (λ e. back t0 t1 _ _ _ c.in_ok-begin_variant-in-Fn.ensures.ok (back t1 t5 _ _ _
          (three_back t1 t2 t5 _ _ _ _ c.in_ok-begin_function-in-Fn.ensures.ok (back t2 t3 _ _ _ c.in_ok-key-in-Fn.ensures.ok
          (back t3 t4 _ _ _ c.in_ok-put_return-in-Fn.ensures.ok c.in_ok-end_object-in-Fn.ensures.ok))) e)) c.end_object-in-Fn-2.ensures.ok;
      before = c.end_object-in-Fn-2.ensures.room.0 ∙ c.end_object-in-Fn.ensures.room.0 ∙ c.put_return.ensures.before ∙ c.key.ensures.room.0
          ∙ c.begin_function.ensures.before ∙ c.begin_variant-in-Fn.ensures.before;
    }
