use Rattle.std.proofs.Common.{◌≡◌, drop}
use Rattle.lalrpop_norm_tree.specs.Symbols.{parts_view}
use Rattle.lalrpop_norm_lower.specs.Carried.{any_error}
use Rattle.lalrpop_norm_lower.proofs.recovery.any_error.Given as goal

abbrev pub invariant-loop-symbol : goal.invariant-loop-symbol
invariant-loop-symbol l = any_error (parts_view (drop l.symbol-index l.symbols)) ≡ any_error (parts_view l.symbols)
