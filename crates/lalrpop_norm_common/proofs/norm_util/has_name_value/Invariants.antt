use Rattle.std.proofs.Common.{◌≡◌, drop}
use Rattle.lalrpop_norm_tree.specs.Symbols.{parts_view}
use Rattle.lalrpop_norm_model.specs.MadeRules.{some_name_value}
use Rattle.lalrpop_norm_common.proofs.norm_util.has_name_value.Given as goal

abbrev pub invariant-loop-symbol : goal.invariant-loop-symbol
invariant-loop-symbol l = some_name_value (parts_view (drop l.symbol-index l.symbols)) ≡ some_name_value (parts_view l.symbols)
