use Rattle.std.proofs.Common.{◌∙◌}
use Rattle.std.proofs.lemmas.Result.{on_ok_weaker}
use Rattle.lalrpop_norm_tree.proofs.KindLevels.{name_is, several_is}
use Rattle.lalrpop_norm_lowered_json_tables.proofs.Steps.{back}
use Rattle.lalrpop_norm_lowered_json.proofs.arguments.+arguments.Goals as goal

pub put_argument_pattern-returns-in-Name : goal.put_argument_pattern-returns-in-Name
put_argument_pattern-returns-in-Name t c =
    rw (name_is c.args.pattern.now c.in-Name.name c.in-Name.is)
    record { ok = c.put_variant.ensures.ok; before = c.put_variant.ensures.before }

pub put_argument_pattern-returns-in_ok-put_tuple-in-Tuple : goal.put_argument_pattern-returns-in_ok-put_tuple-in-Tuple
put_argument_pattern-returns-in_ok-put_tuple-in-Tuple t c =
    let t0 = c.args.out.now.tokens in
    let t1 = c.begin_variant.new.out.tokens in
    let t2 = c.put_tuple.new.out.tokens in
    rw (several_is c.in-Tuple.tuple c.args.pattern.now c.in-Tuple.is)
    record {
      ok = on_ok_weaker c.end_object.result (λ e. back t0 t1 _ _ _ c.in_ok-begin_variant-in-Tuple.ensures.ok (back t1 t2 _ _ _ c.in_ok-put_tuple-in-Tuple.ensures.ok e))
          c.end_object.ensures.ok;
      before = c.end_object.ensures.room.0 ∙ c.put_tuple.ensures.before ∙ c.begin_variant.ensures.before;
    }
