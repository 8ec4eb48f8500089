use Rattle.std.proofs.Common.{◌≡◌, drop}
use Rattle.lalrpop_norm_tree.specs.Symbols.{parts_view}
use Rattle.lalrpop_norm_prevalidate.specs.SymbolFaults.{parts_faults}
use Rattle.lalrpop_norm_prevalidate.proofs.prevalidate.symbols.+symbols.Given as goal

abbrev pub invariant-validate_each-loop-symbol : goal.invariant-validate_each-loop-symbol
invariant-validate_each-loop-symbol l = parts_faults l.around (parts_view (drop l.symbol-index l.symbols)) ≡ parts_faults l.around (parts_view l.symbols)
