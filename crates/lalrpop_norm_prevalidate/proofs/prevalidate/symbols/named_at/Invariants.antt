use Rattle.std.proofs.Common.{◌≡◌, drop}
use Rattle.lalrpop_norm_tree.specs.Symbols.{parts_view}
use Rattle.lalrpop_norm_prevalidate.specs.SymbolFaults.{named_at}
use Rattle.lalrpop_norm_prevalidate.proofs.prevalidate.symbols.named_at.Given as goal

abbrev pub invariant-loop-symbol : goal.invariant-loop-symbol
invariant-loop-symbol l = named_at l.name (parts_view (drop l.symbol-index l.symbols)) ≡ named_at l.name (parts_view l.symbols)
