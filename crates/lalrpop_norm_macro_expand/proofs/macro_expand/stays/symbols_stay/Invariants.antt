use Rattle.std.proofs.Common.{◌≡◌, drop}
use Rattle.lalrpop_norm_tree.specs.Symbols.{parts_view}
use Rattle.lalrpop_norm_macro_expand.specs.Stays.{symbols_stay}
use Rattle.lalrpop_norm_macro_expand.proofs.macro_expand.stays.symbols_stay.Given as goal

abbrev pub invariant-loop-symbol : goal.invariant-loop-symbol
invariant-loop-symbol l = symbols_stay (parts_view (drop l.symbol-index l.symbols)) ≡ symbols_stay (parts_view l.symbols)
