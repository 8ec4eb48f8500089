use Rattle.std.proofs.Common.{◌≡◌, drop}
use Rattle.lalrpop_norm_tree.specs.Symbols.{parts_view}
use Rattle.lalrpop_norm_prevalidate.specs.SymbolFaults.{first_chosen}
use Rattle.lalrpop_norm_prevalidate.proofs.prevalidate.symbols.first_chosen.Given as goal

abbrev pub invariant-loop-symbol : goal.invariant-loop-symbol
invariant-loop-symbol l = first_chosen (parts_view (drop l.symbol-index l.symbols)) ≡ first_chosen (parts_view l.symbols)
