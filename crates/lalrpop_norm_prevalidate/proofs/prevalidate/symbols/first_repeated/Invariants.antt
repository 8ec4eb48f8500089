use Rattle.std.proofs.Common.{◌≡◌, ◌-◌, drop, map}
use Rattle.lalrpop_norm_prevalidate.specs.SymbolFaults.{first_repeated}
use Rattle.lalrpop_norm_prevalidate.proofs.prevalidate.symbols.first_repeated.Given as goal

abbrev pub invariant-loop-later : goal.invariant-loop-later
invariant-loop-later l = first_repeated (map (λ a. a.now) (drop (l.later - 1) l.names)) ≡ first_repeated (map (λ a. a.now) l.names)
