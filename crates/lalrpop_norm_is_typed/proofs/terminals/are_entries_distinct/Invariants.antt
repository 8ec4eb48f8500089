use Rattle.std.proofs.Common.{◌≡◌, drop}
use Rattle.lalrpop_norm_is_typed.specs.Terminals.{are_entries_distinct}
use Rattle.lalrpop_norm_is_typed.proofs.terminals.are_entries_distinct.Given as goal

abbrev pub invariant-loop-i : goal.invariant-loop-i
invariant-loop-i l = are_entries_distinct (drop l.i l.entries) ≡ are_entries_distinct l.entries
