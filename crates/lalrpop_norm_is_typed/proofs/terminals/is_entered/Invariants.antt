use Rattle.std.proofs.Common.{◌≡◌, drop}
use Rattle.lalrpop_norm_is_typed.specs.Terminals.{is_entered}
use Rattle.lalrpop_norm_is_typed.proofs.terminals.is_entered.Given as goal

abbrev pub invariant-loop-entry : goal.invariant-loop-entry
invariant-loop-entry l = is_entered (drop l.entry-index l.entries) l.terminal ≡ is_entered l.entries l.terminal
