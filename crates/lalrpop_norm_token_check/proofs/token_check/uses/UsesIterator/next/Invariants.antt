use Rattle.std.proofs.Common.{◌≡◌, length}
use Rattle.lalrpop_norm_token_check.specs.Uses.{alternatives_left, uses_left}
use Rattle.lalrpop_norm_token_check.proofs.token_check.uses.UsesIterator.next.Given as goal

abbrev pub invariant-loop-found : goal.invariant-loop-found
invariant-loop-found l = uses_left l.self ≡ uses_left l.initial.self

abbrev pub decreases-loop-found : goal.decreases-loop-found
decreases-loop-found l = length (alternatives_left l.self)
