use Rattle.std.proofs.Common.{◌≡◌, drop, option_map}
use Rattle.lalrpop_norm_tree.specs.Symbols.{parts_view}
use Rattle.lalrpop_norm_prevalidate.specs.SymbolFaults.{least_twice}
use Rattle.lalrpop_norm_prevalidate.proofs.prevalidate.symbols.least_of_few.Given as goal

abbrev pub invariant-loop-i : goal.invariant-loop-i
invariant-loop-i l = option_map (λ r. (r.0.now, r.1)) l.least ≡ least_twice (parts_view (drop l.i l.symbols))
