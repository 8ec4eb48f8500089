use Rattle.std.proofs.Common.{◌≡◌, ◌++◌, drop}
use Rattle.lalrpop_norm_tree.specs.Symbols.{parts_view}
use Rattle.lalrpop_norm_model.specs.TokenFaults.{places_in_parts}
use Rattle.lalrpop_norm_common.proofs.uses.add_symbols.Given as goal

abbrev pub invariant-loop-symbol : goal.invariant-loop-symbol
invariant-loop-symbol l =
    l.uses.items ++ places_in_parts (parts_view (drop l.symbol-index l.symbols)) ≡ l.initial.uses.items ++ places_in_parts (parts_view l.symbols)
