use Rattle.std.proofs.Common.{◌≡◌, ◌++◌, length, reverse}
use Rattle.lexplain_lines.proofs.stack.last_of.Given as goal

-- what was taken, the last one first
abbrev pub invariant-loop : goal.invariant-loop
invariant-loop g l = (l.initial.trees.items ≡ l.trees.items ++ reverse l.children.items) × (length l.children.items ≡ l.counter)
