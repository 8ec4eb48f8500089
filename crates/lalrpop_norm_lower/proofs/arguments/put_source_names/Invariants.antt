use Rattle.std.proofs.Common.{◌≡◌, ◌++◌, length, drop}
use Rattle.lalrpop_norm_tree.specs.Symbols.{parts_view}
use Rattle.lalrpop_norm_lower.specs.Naming.{names_from, source_names}
use Rattle.lalrpop_norm_lower.proofs.arguments.put_source_names.Given as goal

abbrev pub invariant-loop-symbol : goal.invariant-loop-symbol
invariant-loop-symbol l = l.names.items ++ names_from l.prefix l.sources.some_named l.sources.some_chosen (length l.names.items) (parts_view (drop l.symbol-index l.symbols)) ≡ source_names l.prefix (parts_view l.symbols)
