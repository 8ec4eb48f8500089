use Rattle.std.proofs.Common.{◌≡◌, not}
use Rattle.std.specs.List.{flat_map}
use Rattle.lalrpop_norm_faults.specs.Faults.{fault_if}
use Rattle.lalrpop_norm_faults.specs.declared.kind.FaultKind.TheVariants.{NoPattern}
use Rattle.lalrpop_norm_token_check.specs.Keys.{terminal_in}
use Rattle.lalrpop_norm_token_check.specs.Uses.{uses_left}
use Rattle.lalrpop_norm_token_check.proofs.token_check.conversions.check_uses.Given as goal

abbrev pub invariant-loop-terminal : goal.invariant-loop-terminal
invariant-loop-terminal l =
    flat_map (λ p. fault_if (not (terminal_in l.converted.keys p.0)) (NoPattern, p.1)) (uses_left l.terminal-iterator)
    ≡ flat_map (λ p. fault_if (not (terminal_in l.converted.keys p.0)) (NoPattern, p.1)) (uses_left l.fn.uses)
