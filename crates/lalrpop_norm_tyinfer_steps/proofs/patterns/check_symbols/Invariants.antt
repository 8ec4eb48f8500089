use Rattle.std.proofs.Common.{◌≡◌, drop}
use Rattle.lalrpop_norm_tree.specs.Symbols.{parts_view}
use Rattle.lalrpop_norm_tyinfer_steps.specs.Numbered.{numbered_table}
use Rattle.lalrpop_norm_tyinfer_steps.specs.TableFaults.{parts_misfits}
use Rattle.lalrpop_norm_tyinfer_steps.specs.TableValues.{type_by_name}
use Rattle.lalrpop_norm_tyinfer_steps.proofs.patterns.check_symbols.Given as goal

abbrev pub invariant-loop-symbol : goal.invariant-loop-symbol
invariant-loop-symbol l = parts_misfits (type_by_name (numbered_table l.types)) (parts_view (drop l.symbol-index l.symbols)) ≡ parts_misfits (type_by_name (numbered_table l.types)) (parts_view l.symbols)
