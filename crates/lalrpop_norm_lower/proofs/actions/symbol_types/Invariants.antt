use Rattle.std.proofs.Common.{◌≡◌, ◌++◌, drop, map}
use Rattle.lalrpop_norm_tree.specs.Symbols.{parts_view}
use Rattle.lalrpop_norm_shared_types.specs.Shared.{shared_view}
use Rattle.lalrpop_norm_lower.specs.Lowering.{lowered_symbols, type_or_unit}
use Rattle.lalrpop_norm_lower.specs.State.{table_by_number}
use Rattle.lalrpop_norm_lower.proofs.actions.symbol_types.Given as goal

abbrev pub invariant-loop-symbol : goal.invariant-loop-symbol
invariant-loop-symbol l =
    map shared_view l.found.items ++ map (type_or_unit (table_by_number l.types)) (lowered_symbols (parts_view (drop l.symbol-index l.symbols)))
    ≡ map (type_or_unit (table_by_number l.types)) (lowered_symbols (parts_view l.symbols))
