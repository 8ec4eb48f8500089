use Rattle.std.proofs.Common.{◌≡◌, ◌++◌, drop}
use Rattle.lalrpop_norm_tree.specs.Symbols.{parts_view}
use Rattle.lalrpop_norm_lower.specs.Lowering.{lowered_symbols}
use Rattle.lalrpop_norm_lower.proofs.symbols.lowered_symbols.Given as goal

abbrev pub invariant-loop-symbol : goal.invariant-loop-symbol
invariant-loop-symbol l = l.lowered.items ++ lowered_symbols (parts_view (drop l.symbol-index l.symbols)) ≡ lowered_symbols (parts_view l.symbols)
