use Rattle.std.proofs.Common.{◌≡◌, ◌++◌}
use Rattle.lalrpop_norm_precedence.proofs.precedence.groups.listed.Given as goal

abbrev pub invariant-loop-level : goal.invariant-loop-level
invariant-loop-level l = l.list.items ++ l.level-iterator ≡ l.fn.levels.keys
