use Rattle.std.proofs.Common.{◌≡◌, drop}
use Rattle.lalrpop_norm_tree.specs.Symbols.{parts_view}
use Rattle.lalrpop_norm_prevalidate.specs.SymbolFaults.{has_named}
use Rattle.lalrpop_norm_prevalidate.proofs.prevalidate.symbols.has_named.Given as goal

abbrev pub invariant-loop-symbol : goal.invariant-loop-symbol
invariant-loop-symbol l = has_named (parts_view (drop l.symbol-index l.symbols)) ≡ has_named (parts_view l.symbols)
