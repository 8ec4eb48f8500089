use Rattle.std.proofs.Common.{◌≡◌}
use Rattle.lalrpop_norm_token_check.specs.Found.{found_view, uses_faults, with_uses}
use Rattle.lalrpop_norm_token_check.specs.Uses.{uses_left}
use Rattle.lalrpop_norm_token_check.proofs.token_check.entries.add_uses.Given as goal

abbrev pub invariant-loop-terminal : goal.invariant-loop-terminal
invariant-loop-terminal l = record {
  refuses : uses_faults l.catch_all (found_view l.found) (uses_left l.terminal-iterator) ≡ uses_faults l.catch_all (found_view l.initial.found) (uses_left l.fn.uses);
  adds : with_uses l.catch_all (found_view l.found) (uses_left l.terminal-iterator) ≡ with_uses l.catch_all (found_view l.initial.found) (uses_left l.fn.uses);
}
