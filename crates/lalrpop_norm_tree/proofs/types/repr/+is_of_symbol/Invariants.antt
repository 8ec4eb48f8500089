use Rattle.std.proofs.Common.{◌≡◌, false, take}
use Rattle.std.specs.List.{list_any}
use Rattle.lalrpop_norm_tree.specs.LoweredTypes.{holds_symbol}
use Rattle.lalrpop_norm_tree.specs.Types.{type_view}
use Rattle.lalrpop_norm_tree.proofs.types.repr.+is_of_symbol.Given as goal

abbrev pub invariant-is_any_of_symbol-loop-inner : goal.invariant-is_any_of_symbol-loop-inner
invariant-is_any_of_symbol-loop-inner l = list_any (λ t. holds_symbol (type_view t)) (take l.inner-index l.types) ≡ false
