use Rattle.std.proofs.Common.{rules, ◌∙◌}
use Rattle.lalrpop_norm_tyinfer_steps.proofs.PairLemmas.{not_and, same_moved, weights_moved}
use Rattle.lalrpop_norm_tyinfer_steps.proofs.SameLemmas.{other_lengths}
use Rattle.lalrpop_norm_tyinfer_steps.proofs.same.push_pairs.Goals as goal

pub returns-then-len-clause-same : goal.returns-then-len-clause-same
returns-then-len-clause-same c = not_and _ _ (other_lengths c.args.a.now.items c.args.b.now.items (search rules))

pub loop-i-preserved : goal.loop-i-preserved
loop-i-preserved c = rw (c.in_ok-push.ensures.items) (
  same_moved c.args.a.now.items c.args.b.now.items c.loop-i.i c.loop-i.pending.items (c.index.result, c.index-in-loop-i.result) (search rules) (search rules) (search rules) (search rules) ∙ c.loop-i.invariant.0,
  rw (weights_moved c.args.a.now.items c.loop-i.i c.loop-i.pending.items (c.index.result, c.index-in-loop-i.result) (search rules) (search rules)) c.loop-i.invariant.1,
)
