use Rattle.std.proofs.Common.{◌≡◌, drop}
use Rattle.lalrpop_norm_tree.specs.Symbols.{parts_view}
use Rattle.lalrpop_norm_prevalidate.specs.AlternativeFaults.{first_inside}
use Rattle.lalrpop_norm_prevalidate.proofs.prevalidate.alternatives.first_inside.Given as goal

abbrev pub invariant-loop-symbol : goal.invariant-loop-symbol
invariant-loop-symbol l = first_inside (parts_view (drop l.symbol-index l.symbols)) ≡ first_inside (parts_view l.symbols)
