use Rattle.std.proofs.Common.{rules}
use Rattle.lalrpop_norm_tyinfer_steps.proofs.PairLemmas.{compared, lighter, fell, held}
use Rattle.lalrpop_norm_tyinfer_steps.proofs.same.is_same_type.Goals as goal

pub returns-then-not-branch : goal.returns-then-not-branch
returns-then-not-branch c = fell c.in_ok-is_same_level.field-0 _ _ (search rules)
    (compared _ _ _ (c.in-Some.a, c.in-Some.b) _ _ _ _ c.in-Some.ensures.items c.node.ensures c.node-in-Some.ensures c.loop-a.invariant c.in_ok-is_same_level.ensures.same)

pub loop-a-smaller : goal.loop-a-smaller
loop-a-smaller c = lighter _ _ _ (c.in-Some.a, c.in-Some.b) _ c.in-Some.ensures.items c.node.ensures c.in_ok-is_same_level.ensures.weight

pub loop-a-preserved : goal.loop-a-preserved
loop-a-preserved c = held c.in_ok-is_same_level.field-0 _ _ (search rules)
    (compared _ _ _ (c.in-Some.a, c.in-Some.b) _ _ _ _ c.in-Some.ensures.items c.node.ensures c.node-in-Some.ensures c.loop-a.invariant c.in_ok-is_same_level.ensures.same)
