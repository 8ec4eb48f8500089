use Rattle.std.proofs.Common.{◌≡◌, drop}
use Rattle.lalrpop_norm_tree.specs.Symbols.{parts_view}
use Rattle.lalrpop_norm_prevalidate.specs.SymbolFaults.{second_at}
use Rattle.lalrpop_norm_prevalidate.proofs.prevalidate.symbols.second_named.Given as goal

abbrev pub invariant-loop-i : goal.invariant-loop-i
invariant-loop-i l = second_at l.name (parts_view (drop l.i l.symbols)) ≡ second_at l.name (parts_view l.symbols)
