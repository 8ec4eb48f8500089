use Rattle.std.proofs.Common.{◌≡◌, drop}
use Rattle.lalrpop_norm_tree.specs.Symbols.{parts_view}
use Rattle.lalrpop_norm_common.specs.Values.{has_chosen}
use Rattle.lalrpop_norm_common.proofs.norm_util.has_chosen.Given as goal

abbrev pub invariant-loop-symbol : goal.invariant-loop-symbol
invariant-loop-symbol l = has_chosen (parts_view (drop l.symbol-index l.symbols)) ≡ has_chosen (parts_view l.symbols)
