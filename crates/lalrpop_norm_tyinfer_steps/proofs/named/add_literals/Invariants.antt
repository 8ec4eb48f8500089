use Rattle.std.proofs.Common.{◌≡◌, ◌++◌, drop}
use Rattle.std.specs.List.{flat_map}
use Rattle.lalrpop_norm_tyinfer_steps.specs.Literals.{used_literal}
use Rattle.lalrpop_norm_tyinfer_steps.proofs.named.add_literals.Given as goal

abbrev pub invariant-loop-terminal : goal.invariant-loop-terminal
invariant-loop-terminal l =
    l.names.items ++ flat_map (λ u. used_literal u.0) (drop l.terminal-index l.uses)
    ≡ l.initial.names.items ++ flat_map (λ u. used_literal u.0) l.uses
