use Rattle.std.proofs.Common.{◌≡◌, drop, map}
use Rattle.std.specs.List.{list_all}
use Rattle.lalrpop_norm_tree.specs.Types.{type_view}
use Rattle.lalrpop_norm_is_expanded.specs.Types.{lacks_symbol}
use Rattle.lalrpop_norm_is_expanded.proofs.types.types_lack_symbol.Given as goal

abbrev pub invariant-loop-ty : goal.invariant-loop-ty
invariant-loop-ty l = list_all lacks_symbol (map type_view (drop l.ty-index l.types)) ≡ list_all lacks_symbol (map type_view l.types)
