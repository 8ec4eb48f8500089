use Rattle.std.proofs.Common.{◌≡◌, [], drop}
use Rattle.lalrpop_norm_lower_steps.specs.Terminals.{sorted_terminals, numbered_terminals}
use Rattle.lalrpop_norm_lower_steps.proofs.terminals.numbers_of.Given as goal

abbrev pub invariant-loop-number : goal.invariant-loop-number
invariant-loop-number l = sorted_terminals l.numbers.entries (numbered_terminals l.number (drop l.number l.terminals)) ≡ sorted_terminals [] (numbered_terminals 0 l.terminals)
