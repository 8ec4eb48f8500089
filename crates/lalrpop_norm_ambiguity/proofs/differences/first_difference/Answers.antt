use Rattle.std.proofs.Common.{◌≡◌, ◌≤◌, ◌<◌, ◌∙◌, sym, ap, length, arith, Some}
use Rattle.lalrpop_norm_ambiguity.proofs.Steps.{ended, differ_here, same_here, both_ended, first_ended}
use Rattle.lalrpop_norm_ambiguity.proofs.differences.first_difference.Goals as goal

pub returns-then-index-other : goal.returns-then-index-other
returns-then-index-other c =
    let h : length c.args.other.now ≤ c.loop-index.index = omega arith in
    sym (ended c.args.one.now c.args.other.now c.loop-index.index c.index-one-index.result c.loop-index-test.true c.index-one-index.is h)
    ∙ c.loop-index.invariant.same

pub returns-then-not-is_same : goal.returns-then-not-is_same
returns-then-not-is_same c =
    let ls : c.loop-index.index < length c.args.other.now = omega arith in
    sym (differ_here c.args.one.now c.args.other.now c.loop-index.index c.index-one-index.result c.loop-index-test.true c.index-one-index.is c.index-other-index.result ls c.index-other-index.is (sym c.if-not-is_same.ensures))
    ∙ c.loop-index.invariant.same

pub loop-index-preserved : goal.loop-index-preserved
loop-index-preserved c =
    let ls : c.loop-index.index < length c.args.other.now = omega arith in
    record {
      within = omega arith;
      same = sym (same_here c.args.one.now c.args.other.now c.loop-index.index c.index-one-index.result c.loop-index-test.true c.index-one-index.is c.index-other-index.result ls c.index-other-index.is (sym c.if-not-is_same.ensures))
          ∙ c.loop-index.invariant.same;
    }

pub returns-then-one-other : goal.returns-then-one-other
returns-then-one-other c =
    let at : c.loop-index.index ≡ length c.args.one.now = omega arith in
    let h : length c.args.one.now ≤ c.loop-index.index = omega arith in
    let k : c.loop-index.index < length c.args.other.now = omega arith in
    ap Some (sym at) ∙ sym (first_ended c.args.one.now c.args.other.now c.loop-index.index h k) ∙ c.loop-index.invariant.same
