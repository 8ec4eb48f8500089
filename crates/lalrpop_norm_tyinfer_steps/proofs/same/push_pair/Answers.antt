use Rattle.std.proofs.Common.{rules}
use Rattle.lalrpop_norm_tyinfer_steps.proofs.PairLemmas.{same_pushed, weights_pushed}
use Rattle.lalrpop_norm_tyinfer_steps.proofs.same.push_pair.Goals as goal

pub returns-clause-same : goal.returns-clause-same
returns-clause-same c = rw (c.in_ok-push.ensures.items) (same_pushed c.args.pending.now.items (c.args.a, c.args.b))

pub returns-clause-weight : goal.returns-clause-weight
returns-clause-weight c = rw (c.in_ok-push.ensures.items, weights_pushed c.args.pending.now.items (c.args.a, c.args.b)) (search rules)
