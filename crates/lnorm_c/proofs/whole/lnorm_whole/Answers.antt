use Rattle.std.proofs.Common.{rules}
use Rattle.lnorm_c.proofs.CallLemmas.{told_one}
use Rattle.lnorm_c.proofs.whole.lnorm_whole.Goals as goal

pub returns-clause-fault : goal.returns-clause-fault
returns-clause-fault c = λ one.
    let ended = told_one c.ended-ended.result.status c.told.result.status (λ l. (c.told.ensures.ended l).0) (λ l. (c.told.ensures.memory l).0) one in
    let refused = c.ended-ended.ensures.fault ended in
    let kept = c.told.ensures.ended (search rules) in
    (refused.0, refused.1, refused.2, c.ended-ended.result.faults.items, refused.3, refused.4, kept.2)
