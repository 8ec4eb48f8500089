use Rattle.std.proofs.Common.{◌≡◌, ◌++◌, drop, map}
use Rattle.lalrpop_norm_tree.specs.Symbols.{parts_view}
use Rattle.lalrpop_norm_prevalidate.specs.SymbolFaults.{symbol_names}
use Rattle.lalrpop_norm_prevalidate.proofs.prevalidate.symbols.symbol_names.Given as goal

abbrev pub invariant-loop-symbol : goal.invariant-loop-symbol
invariant-loop-symbol l = map (λ a. a.now) l.names.items ++ symbol_names (parts_view (drop l.symbol-index l.symbols)) ≡ symbol_names (parts_view l.symbols)
