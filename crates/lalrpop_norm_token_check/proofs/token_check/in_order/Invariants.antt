use Rattle.std.proofs.Common.{◌≡◌, ◌++◌}
use Rattle.lalrpop_norm_token_check.proofs.token_check.in_order.Given as goal

abbrev pub invariant-loop-entry : goal.invariant-loop-entry
invariant-loop-entry l = l.ordered.items ++ l.entry-iterator ≡ l.fn.entries.keys
